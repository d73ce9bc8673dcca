-- Numbered things of which some are kept, and the lists that loops make of them.
use Rattle.std.proofs.Common.{◌≡◌, ℕ, zero, suc, ◌+◌, ◌<◌, ℤ, Bool, true, false, not, cond, List, [], ◌∷◌, ◌++◌, length, map, filter, take, get_or, ap, ◌∙◌, subst, arith}
use Rattle.conda_spec.specs.Parts.{Parts}
use Rattle.conda_record.specs.declared.pkg_record.PkgRecord.{PkgRecord}
use Rattle.conda_encode.specs.Matching.{names}
use Rattle.conda_encode.specs.Variables.{numbered}

-- what f makes of the numbers of those that pass
abbrev pub kept : {A : Type 0} → (A → Bool) → (ℕ → ℤ) → ℕ → List A → List ℤ
kept p f n xs = map (λ x. f x.0) (filter (λ x. p x.1) (numbered n xs))

over : {A : Type 0} (f : ℕ → ℤ) (b : Bool) (n : ℕ) (x : A) (xs ys : List (ℕ × A)) (more : List ℤ) → map (λ (u : ℕ × A). f u.0) xs ≡ map (λ (u : ℕ × A). f u.0) ys ++ more →
    map (λ (u : ℕ × A). f u.0) (cond b ((n, x) ∷ xs) xs) ≡ map (λ (u : ℕ × A). f u.0) (cond b ((n, x) ∷ ys) ys) ++ more
over f true n x xs ys more e = ap (λ zs. f n ∷ zs) e
over f false n x xs ys more e = e

kept_suc : {A : Type 0} (p : A → Bool) (f : ℕ → ℤ) (n : ℕ) (xs : List A) (i : ℕ) (d : A) → i < length xs → p (get_or xs i d) ≡ true →
    kept p f n (take (suc i) xs) ≡ kept p f n (take i xs) ++ f (n + i) ∷ []
kept_suc p f n [] i d lt h = absurd (omega arith)
kept_suc {A} p f n (x ∷ xs) zero d lt h =
    let e : n ≡ n + 0 = omega arith in
    ap (λ b. map (λ (u : ℕ × A). f u.0) (cond b ((n, x) ∷ []) [])) h ∙ ap (λ k. f k ∷ []) e
kept_suc {A} p f n (x ∷ xs) (suc i) d lt h =
    let e : n + 1 + i ≡ n + suc i = omega arith in
    let P : ℕ → Type 0 = λ k. kept p f (n + 1) (take (suc i) xs) ≡ kept p f (n + 1) (take i xs) ++ f k ∷ [] in
    over f (p x) n x (filter (λ u. p u.1) (numbered (n + 1) (take (suc i) xs))) (filter (λ u. p u.1) (numbered (n + 1) (take i xs))) (f (n + suc i) ∷ [])
    (subst P e (kept_suc p f (n + 1) xs i d (omega arith) h))

same_cond : {A : Type 0} (f : ℕ → ℤ) (b : Bool) (n : ℕ) (x : A) (xs ys : List (ℕ × A)) → map (λ (u : ℕ × A). f u.0) xs ≡ map (λ (u : ℕ × A). f u.0) ys →
    map (λ (u : ℕ × A). f u.0) (cond b ((n, x) ∷ xs) xs) ≡ map (λ (u : ℕ × A). f u.0) (cond b ((n, x) ∷ ys) ys)
same_cond f true n x xs ys e = ap (λ zs. f n ∷ zs) e
same_cond f false n x xs ys e = e

left_suc : {A : Type 0} (p : A → Bool) (f : ℕ → ℤ) (n : ℕ) (xs : List A) (i : ℕ) (d : A) → i < length xs → p (get_or xs i d) ≡ false →
    kept p f n (take (suc i) xs) ≡ kept p f n (take i xs)
left_suc p f n [] i d lt h = absurd (omega arith)
left_suc {A} p f n (x ∷ xs) zero d lt h = ap (λ b. map (λ (u : ℕ × A). f u.0) (cond b ((n, x) ∷ []) [])) h
left_suc p f n (x ∷ xs) (suc i) d lt h =
    same_cond f (p x) n x (filter (λ u. p u.1) (numbered (n + 1) (take (suc i) xs))) (filter (λ u. p u.1) (numbered (n + 1) (take i xs)))
    (left_suc p f (n + 1) xs i d (omega arith) h)

pub kept_more : {A : Type 0} (p : A → Bool) (f : ℕ → ℤ) (n : ℕ) (xs : List A) (i : ℕ) (d : A) → i < length xs → p (get_or xs i d) ≡ true →
    kept p f n (take (i + 1) xs) ≡ kept p f n (take i xs) ++ f (n + i) ∷ []
kept_more p f n xs i d lt h =
    let e : i + 1 ≡ suc i = omega arith in ap (λ k. kept p f n (take k xs)) e ∙ kept_suc p f n xs i d lt h

pub left_more : {A : Type 0} (p : A → Bool) (f : ℕ → ℤ) (n : ℕ) (xs : List A) (i : ℕ) (d : A) → i < length xs → p (get_or xs i d) ≡ false →
    kept p f n (take (i + 1) xs) ≡ kept p f n (take i xs)
left_more p f n xs i d lt h =
    let e : i + 1 ≡ suc i = omega arith in ap (λ k. kept p f n (take k xs)) e ∙ left_suc p f n xs i d lt h

-- the specification doesn't name the record
abbrev pub unnamed : Parts → PkgRecord → Bool
unnamed spec pkg = not (names spec pkg)
