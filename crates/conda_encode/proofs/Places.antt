-- What a specification names or bars lies in the pool of its name.
use Rattle.std.proofs.Common.{◌≡◌, ◌≢◌, ℕ, zero, suc, ◌+◌, ◌<◌, ◌==◌, ℤ, Bool, true, false, not, ◌&&◌, cond, List, [], ◌∷◌, ◌++◌, length, map, filter, take, get_or, refl, sym, ap, ◌∙◌, inl, inr, true≢false, arith, eqb-true}
use Rattle.std.proofs.lemmas.Bool.{and_parts, or_parts}
use Rattle.std.proofs.lemmas.Bool.Decides.{Decides-eqb}
use Rattle.std.proofs.lemmas.List.{append-nil, length-append, map-append}
use Rattle.std.proofs.lemmas.List.Elements.{filter-append}
use Rattle.std.proofs.lemmas.Slice.Eq.{slice_eq-Decides}
use Rattle.std.specs.Bool.{Decides}
use Rattle.std.specs.List.{list_any}
use Rattle.conda_base.specs.Signs.{star}
use Rattle.conda_base.specs.Texts.{is_byte, is_text}
use Rattle.conda_clause.specs.Glob.{begins, glob_matches, some_end}
use Rattle.conda_spec.specs.Parts.{Parts}
use Rattle.conda_record.specs.declared.pkg_record.PkgRecord.{PkgRecord}
use Rattle.conda_record.specs.declared.pool.NamePool.{NamePool}
use Rattle.conda_encode.specs.Clauses.{each_barred, off, on, some_named}
use Rattle.conda_encode.specs.Matching.{bars, is_of_name, lowered, names}
use Rattle.conda_encode.specs.Variables.{IsPlain, numbered, records}
use Rattle.conda_encode.proofs.Kept.{kept, unnamed}
use Rattle.conda_encode.proofs.Literals.{by_side}
use Rattle.conda_encode.proofs.Members.{In, of_flat_map}
use Rattle.conda_encode.proofs.Ones.{Own, first_pair, numbered-append, rest_own}

-- ---- names

begins_same : (c : ℕ) (pattern text : List ℕ) → ((rest : List ℕ) → glob_matches pattern rest ≡ true → pattern ≡ rest) → begins c (glob_matches pattern) text ≡ true → c ∷ pattern ≡ text
begins_same c pattern [] same h = absurd (true≢false (sym h))
begins_same c pattern (b ∷ bs) same h =
    let parts : ((b == c) ≡ true) × (glob_matches pattern bs ≡ true) = and_parts (b == c) (glob_matches pattern bs) h in
    let e : b ≡ c = eqb-true b c parts.0 in
    let f : pattern ≡ bs = same bs parts.1 in cc

-- a pattern without a star stands for itself alone
glob_same : (pattern text : List ℕ) → list_any (is_byte star) pattern ≡ false → glob_matches pattern text ≡ true → pattern ≡ text
glob_same [] [] plain h = refl
glob_same [] (b ∷ bs) plain h = absurd (true≢false (sym h))
glob_same (c ∷ pattern) text plain h =
    let parts : (is_byte star c ≡ false) × (list_any (is_byte star) pattern ≡ false) = or_parts (is_byte star c) (list_any (is_byte star) pattern) plain in
    elim (by_side (c == star)) [
      | inl e ↦ absurd (true≢false (sym e ∙ parts.0))
      | inr e ↦ begins_same c pattern text (λ rest k. glob_same pattern rest parts.1 k)
          (sym (ap (λ b. cond b (some_end (glob_matches pattern) text) (begins c (glob_matches pattern) text)) e) ∙ h)
    ]

first_part : (a b : Bool) → (a && b) ≡ true → a ≡ true
first_part a b h = (and_parts a b h).0

pub named_own : (spec : Parts) (pkg : PkgRecord) → IsPlain spec → names spec pkg ≡ true → spec.name ≡ lowered pkg.name
named_own spec pkg plain h =
    glob_same spec.name (lowered pkg.name) plain (first_part (glob_matches spec.name (lowered pkg.name)) _ h)

same_text : (a b : List ℕ) → Decides (is_text a b) (a ≡ b)
same_text a b = slice_eq-Decides Decides-eqb a b (is_text a b) refl

barred_own : (spec : Parts) (pkg : PkgRecord) → bars spec pkg ≡ true → spec.name ≡ lowered pkg.name
barred_own spec pkg h = (same_text spec.name (lowered pkg.name)).0 (first_part (is_of_name spec pkg) (not (names spec pkg)) h)

-- of a record of the name, that it is barred is that it isn't named
bars_unnamed : (spec : Parts) (pkg : PkgRecord) → spec.name ≡ lowered pkg.name → bars spec pkg ≡ unnamed spec pkg
bars_unnamed spec pkg e = ap (λ b. b && not (names spec pkg)) ((same_text spec.name (lowered pkg.name)).1 e)

-- ---- what is kept of lists in a row

kept_append : (p : PkgRecord → Bool) (f : ℕ → ℤ) (n : ℕ) (xs ys : List PkgRecord) → kept p f n (xs ++ ys) ≡ kept p f n xs ++ kept p f (n + length xs) ys
kept_append p f n xs ys =
    ap (λ zs. map (λ (x : ℕ × PkgRecord). f x.0) (filter (λ x. p x.1) zs)) (numbered-append n xs ys)
    ∙ ap (λ zs. map (λ (x : ℕ × PkgRecord). f x.0) zs) (filter-append (λ (x : ℕ × PkgRecord). p x.1) (numbered n xs) (numbered (n + length xs) ys))
    ∙ map-append (λ (x : ℕ × PkgRecord). f x.0) (filter (λ (x : ℕ × PkgRecord). p x.1) (numbered n xs)) (filter (λ (x : ℕ × PkgRecord). p x.1) (numbered (n + length xs) ys))

kept_none : (p : PkgRecord → Bool) (f : ℕ → ℤ) (n : ℕ) (xs : List PkgRecord) → ((x : PkgRecord) → In x xs → p x ≡ true → ⊥) → kept p f n xs ≡ []
kept_none p f n [] none = refl
kept_none p f n (x ∷ xs) none =
    elim (by_side (p x)) [
      | inl e ↦ absurd (none x (inl refl) e)
      | inr e ↦ ap (λ b. map (λ (u : ℕ × PkgRecord). f u.0) (cond b ((n, x) ∷ filter (λ u. p u.1) (numbered (n + 1) xs)) (filter (λ u. p u.1) (numbered (n + 1) xs)))) e
          ∙ kept_none p f (n + 1) xs (λ y i. none y (inr i))
    ]

cons_kept : (p : PkgRecord → Bool) (f : ℕ → ℤ) (n : ℕ) (x : PkgRecord) (xs : List PkgRecord) → p x ≡ true → kept p f n (x ∷ xs) ≡ f n ∷ kept p f (n + 1) xs
cons_kept p f n x xs e = ap (λ b. map (λ (u : ℕ × PkgRecord). f u.0) (cond b ((n, x) ∷ filter (λ u. p u.1) (numbered (n + 1) xs)) (filter (λ u. p u.1) (numbered (n + 1) xs)))) e

skip_kept : (p : PkgRecord → Bool) (f : ℕ → ℤ) (n : ℕ) (x : PkgRecord) (xs : List PkgRecord) → p x ≡ false → kept p f n (x ∷ xs) ≡ kept p f (n + 1) xs
skip_kept p f n x xs e = ap (λ b. map (λ (u : ℕ × PkgRecord). f u.0) (cond b ((n, x) ∷ filter (λ u. p u.1) (numbered (n + 1) xs)) (filter (λ u. p u.1) (numbered (n + 1) xs)))) e

kept_same : (p q : PkgRecord → Bool) (f : ℕ → ℤ) (n : ℕ) (xs : List PkgRecord) → ((x : PkgRecord) → In x xs → p x ≡ q x) → kept p f n xs ≡ kept q f n xs
kept_same p q f n [] same = refl
kept_same p q f n (x ∷ xs) same =
    let ih : kept p f (n + 1) xs ≡ kept q f (n + 1) xs = kept_same p q f (n + 1) xs (λ y i. same y (inr i)) in
    elim (by_side (q x)) [
      | inl e ↦ cons_kept p f n x xs (same x (inl refl) ∙ e) ∙ ap (λ zs. f n ∷ zs) ih ∙ sym (cons_kept q f n x xs e)
      | inr e ↦ skip_kept p f n x xs (same x (inl refl) ∙ e) ∙ ih ∙ sym (skip_kept q f n x xs e)
    ]

-- the property is of records of one name
abbrev pub IsOfName : (PkgRecord → Bool) → List ℕ → Type 0
IsOfName p name = (pkg : PkgRecord) → p pkg ≡ true → name ≡ lowered pkg.name

pub kept_nowhere : (p : PkgRecord → Bool) (f : ℕ → ℤ) (n : ℕ) (name : List ℕ) (pools : List NamePool) → Own pools → IsOfName p name →
    ((pool : NamePool) → In pool pools → pool.name ≡ name → ⊥) → kept p f n (records pools) ≡ []
kept_nowhere p f n name pools o of_name none =
    kept_none p f n (records pools) (λ pkg i h.
    let w : (pool : NamePool) × In pool pools × In pkg pool.recs = of_flat_map (λ (q : NamePool). q.recs) pools pkg i in
    none w.0 w.1 (sym (o.own w.0 w.1 pkg w.2) ∙ sym (of_name pkg h)))

in_at : {A : Type 0} (xs : List A) (i : ℕ) (d : A) → i < length xs → In (get_or xs i d) xs
in_at [] i d lt = absurd (omega arith)
in_at (x ∷ xs) zero d lt = inl refl
in_at (x ∷ xs) (suc i) d lt = inr (in_at xs i d (omega arith))

pub kept_at : (p : PkgRecord → Bool) (f : ℕ → ℤ) (n : ℕ) (name : List ℕ) (pools : List NamePool) (at : ℕ) (d : NamePool) → Own pools → IsOfName p name →
    at < length pools → (get_or pools at d).name ≡ name → kept p f n (records pools) ≡ kept p f (n + length (records (take at pools))) (get_or pools at d).recs
kept_at p f n name [] at d o of_name lt e = absurd (omega arith)
kept_at p f n name (pool ∷ rest) zero d o of_name lt e =
    let none : kept p f (n + length pool.recs) (records rest) ≡ []
    = kept_nowhere p f (n + length pool.recs) name rest (rest_own pool rest o) of_name
    (λ q i same. first_pair (λ (a b : NamePool). a.name ≢ b.name) pool q rest o.apart i (e ∙ sym same)) in
    let z : n ≡ n + 0 = omega arith in
    kept_append p f n pool.recs (records rest) ∙ ap (λ zs. kept p f n pool.recs ++ zs) none ∙ append-nil (kept p f n pool.recs) ∙ ap (λ k. kept p f k pool.recs) z
kept_at p f n name (pool ∷ rest) (suc at) d o of_name lt e =
    let none : kept p f n pool.recs ≡ []
    = kept_none p f n pool.recs (λ pkg i h.
    first_pair (λ (a b : NamePool). a.name ≢ b.name) pool (get_or rest at d) rest o.apart (in_at rest at d (omega arith))
    (sym (o.own pool (inl refl) pkg i) ∙ sym (of_name pkg h) ∙ sym e)) in
    let ih : kept p f (n + length pool.recs) (records rest) ≡ kept p f (n + length pool.recs + length (records (take at rest))) (get_or rest at d).recs
    = kept_at p f (n + length pool.recs) name rest at d (rest_own pool rest o) of_name (omega arith) e in
    let z : n + length pool.recs + length (records (take at rest)) ≡ n + length (pool.recs ++ records (take at rest)) = omega (arith, length-append pool.recs (records (take at rest))) in
    kept_append p f n pool.recs (records rest) ∙ ap (λ zs. zs ++ kept p f (n + length pool.recs) (records rest)) none ∙ ih ∙ ap (λ k. kept p f k (get_or rest at d).recs) z

-- ---- a specification's lists

pub named_at : (spec : Parts) (pools : List NamePool) (at : ℕ) (d : NamePool) → IsPlain spec → Own pools → at < length pools → (get_or pools at d).name ≡ spec.name →
    some_named pools spec ≡ kept (names spec) on (1 + length (records (take at pools))) (get_or pools at d).recs
named_at spec pools at d plain o lt e = kept_at (names spec) on 1 spec.name pools at d o (λ pkg. named_own spec pkg plain) lt e

pub named_nowhere : (spec : Parts) (pools : List NamePool) → IsPlain spec → Own pools → ((pool : NamePool) → In pool pools → pool.name ≡ spec.name → ⊥) → some_named pools spec ≡ []
named_nowhere spec pools plain o none = kept_nowhere (names spec) on 1 spec.name pools o (λ pkg. named_own spec pkg plain) none

pub barred_at : (spec : Parts) (pools : List NamePool) (at : ℕ) (d : NamePool) → Own pools → at < length pools → (get_or pools at d).name ≡ spec.name →
    each_barred pools spec ≡ kept (unnamed spec) off (1 + length (records (take at pools))) (get_or pools at d).recs
barred_at spec pools at d o lt e =
    kept_at (bars spec) off 1 spec.name pools at d o (barred_own spec) lt e
    ∙ kept_same (bars spec) (unnamed spec) off (1 + length (records (take at pools))) (get_or pools at d).recs
    (λ pkg i. bars_unnamed spec pkg (sym e ∙ sym (o.own (get_or pools at d) (in_at pools at d lt) pkg i)))

pub barred_nowhere : (spec : Parts) (pools : List NamePool) → Own pools → ((pool : NamePool) → In pool pools → pool.name ≡ spec.name → ⊥) → each_barred pools spec ≡ []
barred_nowhere spec pools o none = kept_nowhere (bars spec) off 1 spec.name pools o (barred_own spec) none
