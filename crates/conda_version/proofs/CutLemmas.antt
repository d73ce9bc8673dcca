-- Lemmas on texts that are cut at a byte.
use Rattle.std.proofs.Common.{◌≡◌, ℕ, suc, ◌+◌, ◌<◌, Bool, true, false, cond, List, [], ◌∷◌, ◌++◌, length, take, drop, None, Some, refl, sym, ap, ◌∙◌, arith}
use Rattle.std.proofs.lemmas.Bool.Decides.{nat_tests}
use Rattle.std.proofs.lemmas.List.Sums.{prefix_len-le-length}
use Rattle.std.specs.Prelude.{◌↔◌, not, ◌==◌}
use Rattle.std.specs.List.{position, position_or_len}
use Rattle.std.specs.Option.{option_map}
use Rattle.conda_base.specs.Texts.{IsFreeOf, cut_first, in_front, is_byte}

-- what conda_base's laws of cuts say
pub record Cuts : Type 0 where
  pub first : (mark : ℕ) (text before behind : List ℕ)
      → (cut_first mark text ≡ Some (before, behind)) ↔ ((text ≡ before ++ mark ∷ behind) × IsFreeOf mark before)
  pub none : (mark : ℕ) (text : List ℕ) → (cut_first mark text ≡ None) ↔ IsFreeOf mark text

pub cuts : ((mark : ℕ) (text before behind : List ℕ)
    → (cut_first mark text ≡ Some (before, behind)) ↔ ((text ≡ before ++ mark ∷ behind) × IsFreeOf mark before))
    → ((mark : ℕ) (text : List ℕ) → (cut_first mark text ≡ None) ↔ IsFreeOf mark text) → Cuts
cuts first none = record { first = first; none = none }

cut_here : (c b : ℕ) (bs : List ℕ) → (b == c) ≡ true → cut_first c (b ∷ bs) ≡ Some ([], bs)
cut_here c b bs e = ap (λ k. cond k (Some ([], bs)) (option_map (in_front b) (cut_first c bs))) e

cut_later : (c b : ℕ) (bs : List ℕ) → (b == c) ≡ false → cut_first c (b ∷ bs) ≡ option_map (in_front b) (cut_first c bs)
cut_later c b bs e = ap (λ k. cond k (Some ([], bs)) (option_map (in_front b) (cut_first c bs))) e

-- ---- cuts and places

place_is : (c : ℕ) (xs : List ℕ) (at : ℕ) → Some at ≡ position (is_byte c) xs → (at ≡ position_or_len (is_byte c) xs) × (at < length xs)
place_is c xs at h = grind (arith, nat_tests)

cut_at : (c : ℕ) (xs : List ℕ) → position_or_len (is_byte c) xs < length xs
    → cut_first c xs ≡ Some (take (position_or_len (is_byte c) xs) xs, drop (position_or_len (is_byte c) xs + 1) xs)
cut_at c [] h = absurd (omega arith)
cut_at c (b ∷ bs) h = by_byte (b == c) refl (cut_at c bs)
  where
    by_byte : (k : Bool) → (b == c) ≡ k
        → (position_or_len (is_byte c) bs < length bs
        → cut_first c bs ≡ Some (take (position_or_len (is_byte c) bs) bs, drop (position_or_len (is_byte c) bs + 1) bs))
        → cut_first c (b ∷ bs) ≡ Some
        (take (position_or_len (is_byte c) (b ∷ bs)) (b ∷ bs), drop (position_or_len (is_byte c) (b ∷ bs) + 1) (b ∷ bs))
    by_byte true e more =
        let len : position_or_len (is_byte c) (b ∷ bs) ≡ 0 = ap (λ k. cond (not k) (1 + position_or_len (is_byte c) bs) 0) e in
        cut_here c b bs e ∙ sym (ap (λ n. Some (take n (b ∷ bs), drop (n + 1) (b ∷ bs))) len)
    by_byte false e more =
        let n : ℕ = position_or_len (is_byte c) bs in
        let len : position_or_len (is_byte c) (b ∷ bs) ≡ suc n = ap (λ k. cond (not k) (1 + n) 0) e ∙ omega arith in
        let behind : suc n + 1 ≡ suc (n + 1) = omega arith in
        let inside : n < length bs = omega arith in
        cut_later c b bs e ∙ ap (option_map (in_front b)) (more inside)
        ∙ sym (ap (λ m. Some (take m (b ∷ bs), drop (m + 1) (b ∷ bs))) len ∙ ap (λ m. Some (b ∷ take n bs, drop m (b ∷ bs))) behind)

pub cut_at_place : (c : ℕ) (xs : List ℕ) (at : ℕ) → Some at ≡ position (is_byte c) xs → cut_first c xs ≡ Some (take at xs, drop (at + 1) xs)
cut_at_place c xs at h =
    let found = place_is c xs at h in
    cut_at c xs (omega (arith, found.0, found.1)) ∙ sym (ap (λ n. Some (take n xs, drop (n + 1) xs)) found.0)

free_of_place : (c : ℕ) (xs : List ℕ) → position_or_len (is_byte c) xs ≡ length xs → IsFreeOf c xs
free_of_place c [] h = tt
free_of_place c (b ∷ bs) h = by_byte (b == c) refl (free_of_place c bs)
  where
    by_byte : (k : Bool) → (b == c) ≡ k → (position_or_len (is_byte c) bs ≡ length bs → IsFreeOf c bs) → IsFreeOf c (b ∷ bs)
    by_byte true e more =
        let len : position_or_len (is_byte c) (b ∷ bs) ≡ 0 = ap (λ k. cond (not k) (1 + position_or_len (is_byte c) bs) 0) e in
        absurd (omega arith)
    by_byte false e more =
        let len : position_or_len (is_byte c) (b ∷ bs) ≡ 1 + position_or_len (is_byte c) bs =
        ap (λ k. cond (not k) (1 + position_or_len (is_byte c) bs) 0) e in
        (e, more (omega arith))

-- no place was found
pub no_place : (c : ℕ) (xs : List ℕ) → None ≡ position (is_byte c) xs → IsFreeOf c xs
no_place c xs h = free_of_place c xs (grind (arith, nat_tests, prefix_len-le-length (λ x. not (is_byte c x)) xs))

len_of_free : (c : ℕ) (xs : List ℕ) → IsFreeOf c xs → position_or_len (is_byte c) xs ≡ length xs
len_of_free c [] h = refl
len_of_free c (b ∷ bs) h = ap (λ k. cond (not k) (1 + position_or_len (is_byte c) bs) 0) h.0 ∙ omega (arith, len_of_free c bs h.1)

pub place_of_free : (c : ℕ) (xs : List ℕ) → IsFreeOf c xs → position (is_byte c) xs ≡ None
place_of_free c xs h = let e = len_of_free c xs h in grind (arith, nat_tests, e)
