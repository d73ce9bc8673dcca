-- Names in lower case.
use Rattle.std.specs.Prelude.{◌≡◌, ℕ, ◌+◌, ◌<◌, ◌≤◌, zero, suc, Bool, true, false, cond, ◌&&◌, List, [], ◌∷◌, codes, length, min, nat_eq, nat_lt}
use Rattle.std.proofs.Common.{refl, ap, sym, ◌∙◌, arith, get_or, drop}
use Rattle.std.proofs.Math.Seq.{drop-cons}
use Rattle.std.proofs.lemmas.Cmp.{by_ranked, ranked}
use Rattle.std.proofs.lemmas.Bool.{ltb-false, ltb-true, ne_eqb}
use Rattle.std.specs.Char.{to_ascii_lowercase}
use Rattle.std.specs.Cmp.Lexicographic.{slice_cmp}
use Rattle.std.specs.List.{starts_with}
use Rattle.std.specs.Ordering.{is_eq, nat_cmp, ordering_then}
use Rattle.std.specs.declared.cmp.Ordering.{Ordering}
use Rattle.std.specs.declared.cmp.Ordering.TheVariants.{Less, Equal, Greater}
use Rattle.conda_encode.specs.Matching.{lowered}

-- one byte more of both is equal
pub same_so_far : (xs ys : List ℕ) (i : ℕ) (d e : ℕ) → i < length xs → i < length ys
    → nat_cmp (to_ascii_lowercase (get_or xs i d)) (to_ascii_lowercase (get_or ys i e)) ≡ Equal
    → slice_cmp nat_cmp (lowered (drop i xs)) (lowered (drop i ys)) ≡ slice_cmp nat_cmp (lowered (drop (i + 1) xs)) (lowered (drop (i + 1) ys))
same_so_far xs ys i d e h k same =
    let next : suc i ≡ i + 1 = omega arith in
    ap (λ l. slice_cmp nat_cmp (lowered l) (lowered (drop i ys))) (drop-cons xs i d h)
    ∙ ap (λ l. slice_cmp nat_cmp (lowered (get_or xs i d ∷ drop (suc i) xs)) (lowered l)) (drop-cons ys i e k)
    ∙ ap (λ o. ordering_then o (slice_cmp nat_cmp (lowered (drop (suc i) xs)) (lowered (drop (suc i) ys)))) same
    ∙ ap (λ n. slice_cmp nat_cmp (lowered (drop n xs)) (lowered (drop n ys))) next

-- the first byte that differs decides
pub differ_here : (xs ys : List ℕ) (i : ℕ) (d e : ℕ) → i < length xs → i < length ys
    → (is_eq (nat_cmp (to_ascii_lowercase (get_or xs i d)) (to_ascii_lowercase (get_or ys i e))) ≡ false)
    → slice_cmp nat_cmp (lowered (drop i xs)) (lowered (drop i ys))
    ≡ nat_cmp (to_ascii_lowercase (get_or xs i d)) (to_ascii_lowercase (get_or ys i e))
differ_here xs ys i d e h k differs =
    ap (λ l. slice_cmp nat_cmp (lowered l) (lowered (drop i ys))) (drop-cons xs i d h)
    ∙ ap (λ l. slice_cmp nat_cmp (lowered (get_or xs i d ∷ drop (suc i) xs)) (lowered l)) (drop-cons ys i e k)
    ∙ by (nat_cmp (to_ascii_lowercase (get_or xs i d)) (to_ascii_lowercase (get_or ys i e))) differs
  where
    by : (o : Ordering) → is_eq o ≡ false
        → ordering_then o (slice_cmp nat_cmp (lowered (drop (suc i) xs)) (lowered (drop (suc i) ys))) ≡ o
    by Less h = refl
    by Equal h = cc h
    by Greater h = refl

less_is : (a b : ℕ) → a < b → nat_cmp a b ≡ Less
less_is a b h =
    by_ranked (a < b) (a ≡ b) (b < a) (nat_cmp a b) (ranked a b (nat_cmp a b) refl) (λ e _. e) (λ _ q. absurd (omega arith))
    (λ _ q. absurd (omega arith))

equal_is : (a b : ℕ) → a ≡ b → nat_cmp a b ≡ Equal
equal_is a b h =
    by_ranked (a < b) (a ≡ b) (b < a) (nat_cmp a b) (ranked a b (nat_cmp a b) refl) (λ _ q. absurd (omega arith)) (λ e _. e)
    (λ _ q. absurd (omega arith))

greater_is : (a b : ℕ) → b < a → nat_cmp a b ≡ Greater
greater_is a b h =
    by_ranked (a < b) (a ≡ b) (b < a) (nat_cmp a b) (ranked a b (nat_cmp a b) refl) (λ _ q. absurd (omega arith))
    (λ _ q. absurd (omega arith)) (λ e _. e)

both_more : (a b : ℕ) → nat_cmp a b ≡ nat_cmp (suc a) (suc b)
both_more a b =
    by_ranked (a < b) (a ≡ b) (b < a) (nat_cmp a b) (ranked a b (nat_cmp a b) refl) (λ e q. e ∙ sym (less_is (suc a) (suc b) (omega arith)))
    (λ e q. e ∙ sym (equal_is (suc a) (suc b) (omega arith)))
    (λ e q. e ∙ sym (greater_is (suc a) (suc b) (omega arith)))

-- behind the shorter one the longer one is greater
pub shorter_first : (xs ys : List ℕ) (n : ℕ) → n ≡ min (length xs) (length ys)
    → slice_cmp nat_cmp (lowered (drop n xs)) (lowered (drop n ys)) ≡ nat_cmp (length xs) (length ys)
shorter_first [] [] zero h = refl
shorter_first [] (y ∷ ys) zero h = sym (less_is 0 (suc (length ys)) (omega arith))
shorter_first (x ∷ xs) [] zero h = sym (greater_is (suc (length xs)) 0 (omega arith))
shorter_first (x ∷ xs) (y ∷ ys) zero h = absurd (omega arith)
shorter_first [] [] (suc n) h = absurd (omega arith)
shorter_first [] (y ∷ ys) (suc n) h = absurd (omega arith)
shorter_first (x ∷ xs) [] (suc n) h = absurd (omega arith)
shorter_first (x ∷ xs) (y ∷ ys) (suc n) h = shorter_first xs ys n (omega arith) ∙ both_more (length xs) (length ys)

underscore_is : (b : ℕ) → nat_eq 95 (to_ascii_lowercase b) ≡ nat_eq 95 b
underscore_is b = by (nat_lt b 65) refl (nat_lt b 91) refl
  where
    by : (low : Bool) → nat_lt b 65 ≡ low → (high : Bool) → nat_lt b 91 ≡ high → nat_eq 95 (cond low b (cond high (b + 32) b)) ≡ nat_eq 95 b
    by true h high k = refl
    by false h false k = refl
    by false h true k =
        let above : 65 ≤ b = ltb-false b 65 h in
        let below : b < 91 = ltb-true b 91 k in
        ne_eqb 95 (b + 32) (λ e. omega (arith, e, above, below)) ∙ sym (ne_eqb 95 b (λ e. omega (arith, e, above, below)))

-- a name begins with two underscores where its lower case does
pub begins_alike : (name : List ℕ) → starts_with nat_eq (lowered name) (codes "__") ≡ starts_with nat_eq name (codes "__")
begins_alike [] = refl
begins_alike (b ∷ []) = ap (λ t. t && false) (underscore_is b)
begins_alike (b ∷ c ∷ rest) = ap (λ t. t && (nat_eq 95 (to_ascii_lowercase c) && true)) (underscore_is b) ∙ ap (λ t. nat_eq 95 b && (t && true)) (underscore_is c)
