-- One more element whose key none before has.
use Rattle.std.specs.Prelude.{◌≡◌, ℕ, ◌<◌, zero, suc, Bool, true, false, List, [], ◌∷◌, ◌++◌, length, slice_index_or}
use Rattle.std.proofs.Common.{sym, ◌∙◌, arith}
use Rattle.std.proofs.lemmas.Bool.{or_parts, true≢false}
use Rattle.std.proofs.lemmas.List.Quantifiers.{all_pairs_push}
use Rattle.std.specs.List.{AllPairs, list_any}

none_passes : {X : Type 0} (p : X → Bool) (xs : List X) → list_any p xs ≡ false → (k : ℕ) (d : X) → k < length xs → p (slice_index_or xs k d) ≡ false
none_passes p [] h k d q = absurd (omega (arith, q))
none_passes p (x ∷ xs) h zero d q = (or_parts (p x) (list_any p xs) h).0
none_passes p (x ∷ xs) h (suc k) d q = none_passes p xs (or_parts (p x) (list_any p xs) h).1 k d (omega (arith, q))

pub pushed : {X K : Type 0} (key : X → K) (same : K → K → Bool) → ((a b : K) → a ≡ b → same a b ≡ true) → (S : X → X → Type 0) (xs : List X) (x : X) → AllPairs (λ a b. key a ≡ key b → S a b) xs → list_any (λ y. same (key y) (key x)) xs ≡ false → AllPairs (λ a b. key a ≡ key b → S a b) (xs ++ x ∷ [])
pushed key same tells S xs x h none =
    all_pairs_push (λ a b. key a ≡ key b → S a b) xs x h
    (λ k d q e. absurd (true≢false (sym (tells (key (slice_index_or xs k d)) (key x) e) ∙ none_passes (λ y. same (key y) (key x)) xs none k d q)))
