-- What lists, joined, mapped and filtered ones have.
use Rattle.std.proofs.Common.{◌≡◌, ℕ, ◌+◌, ◌<◌, ◌⊎◌, inl, inr, Bool, true, false, cond, List, length, take, map, [], ◌∷◌, ◌++◌, append-nil, get_or, zero, suc, arith, refl, ap, sym, subst, ◌∙◌}
use Rattle.std.proofs.lemmas.List.{get_or-map, length-map, map-append, take_more}
use Rattle.std.proofs.lemmas.List.Concat.{flat_map-append}
use Rattle.std.proofs.lemmas.List.Elements.{Contains-append_cases, Contains-append_left, Contains-append_right}
use Rattle.std.proofs.lemmas.List.Sorted.{Contains-permutation, length_permutation}
use Rattle.std.specs.List.{Contains, flat_map}
use Rattle.std.specs.List.Sorted.{IsPermutation}
use Rattle.std.specs.Prelude.{filter}

pub the_only : {X : Type 0} (x y : X) → Contains (x ∷ []) y → x ≡ y
the_only {X} x y has = by has.0 has.1 has.2
  where
    by : (i : ℕ) → i < 1 → get_or (x ∷ []) i y ≡ y → x ≡ y
    by zero low is = is
    by (suc i) low is = absurd (omega (arith, low))

pub none_in : {X : Type 0} (x : X) → ¬ Contains [] x
none_in x has = absurd (omega (arith, has.1))

pub at_end : {X : Type 0} (xs : List X) (x : X) → Contains (xs ++ x ∷ []) x
at_end xs x = Contains-append_right xs (x ∷ []) x (0, omega arith, refl)

pub not_the_last : {X : Type 0} (xs : List X) (x y : X) → ¬ (x ≡ y) → Contains (xs ++ x ∷ []) y → Contains xs y
not_the_last xs x y apart has = elim (Contains-append_cases xs (x ∷ []) y has) [
  | inl before ↦ before
  | inr last ↦ absurd (apart (the_only x y last))
]

-- one thing in another order is itself
pub alone : {X : Type 0} (x : X) (ys : List X) → IsPermutation (x ∷ []) ys → ys ≡ x ∷ []
alone {X} x ys same = by ys (length_permutation (x ∷ []) ys same) (Contains-permutation (x ∷ []) ys x same (0, omega arith, refl))
  where
    by : (ys : List X) → length ys ≡ 1 → Contains ys x → ys ≡ x ∷ []
    by [] count has = absurd (none_in x has)
    by (y ∷ []) count has = ap (λ z. z ∷ []) (the_only y x has)
    by (y ∷ z ∷ rest) count has = absurd (omega (arith, count))

pub next_taken : {X : Type 0} (xs : List X) (i : ℕ) (x : X) → i < length xs → x ≡ get_or xs i x → take (i + 1) xs ≡ take i xs ++ x ∷ []
next_taken xs i x within is = take_more xs i x within ∙ ap (λ y. take i xs ++ y ∷ []) (sym is)

pub next_joined : {X Y : Type 0} (f : X → List Y) (xs : List X) (i : ℕ) (x : X) → i < length xs → x ≡ get_or xs i x
    → flat_map f (take i xs) ++ f x ≡ flat_map f (take (i + 1) xs)
next_joined f xs i x within is =
    ap (λ ys. flat_map f (take i xs) ++ ys) (sym (append-nil (f x))) ∙ sym (flat_map-append f (take i xs) (x ∷ [])) ∙ ap (flat_map f)
    (sym (next_taken xs i x within is))

-- ---- both ways

pub in_map : {X Y : Type 0} (f : X → Y) (xs : List X) (x : X) → Contains xs x → Contains (map f xs) (f x)
in_map f [] x has = absurd (none_in x has)
in_map f (y ∷ ys) x has = by (in_map f ys x) (Contains-append_cases (y ∷ []) ys x has)
  where
    by : (Contains ys x → Contains (map f ys) (f x)) → Contains (y ∷ []) x ⊎ Contains ys x → Contains (f y ∷ map f ys) (f x)
    by rest (inl here) = subst (λ z. Contains (f y ∷ map f ys) (f z)) (the_only y x here) (0, omega arith, refl)
    by rest (inr there) = Contains-append_right (f y ∷ []) (map f ys) (f x) (rest there)

pub from_map : {X Y : Type 0} (f : X → Y) (xs : List X) (y : Y) → Contains (map f xs) y → (x : X) × Contains xs x × (f x ≡ y)
from_map f [] y has = absurd (none_in y has)
from_map {X} f (x ∷ xs) y has = by (from_map f xs y) (Contains-append_cases (f x ∷ []) (map f xs) y has)
  where
    by : (Contains (map f xs) y → (z : X) × Contains xs z × (f z ≡ y)) → Contains (f x ∷ []) y ⊎ Contains (map f xs) y
        → (z : X) × Contains (x ∷ xs) z × (f z ≡ y)
    by rest (inl here) = (x, (0, omega arith, refl), the_only (f x) y here)
    by rest (inr there) = let r = rest there in (r.0, Contains-append_right (x ∷ []) xs r.0 r.1, r.2)

pub in_flat : {X Y : Type 0} (f : X → List Y) (xs : List X) (x : X) (y : Y) → Contains xs x → Contains (f x) y
    → Contains (flat_map f xs) y
in_flat f [] x y has own = absurd (none_in x has)
in_flat f (z ∷ zs) x y has own = by (in_flat f zs x y) (Contains-append_cases (z ∷ []) zs x has)
  where
    by : (Contains zs x → Contains (f x) y → Contains (flat_map f zs) y) → Contains (z ∷ []) x ⊎ Contains zs x
        → Contains (f z ++ flat_map f zs) y
    by rest (inl here) = Contains-append_left (f z) (flat_map f zs) y (subst (λ w. Contains (f w) y) (sym (the_only z x here)) own)
    by rest (inr there) = Contains-append_right (f z) (flat_map f zs) y (rest there own)

pub from_flat : {X Y : Type 0} (f : X → List Y) (xs : List X) (y : Y) → Contains (flat_map f xs) y
    → (x : X) × Contains xs x × Contains (f x) y
from_flat f [] y has = absurd (none_in y has)
from_flat {X} f (x ∷ xs) y has = by (from_flat f xs y) (Contains-append_cases (f x) (flat_map f xs) y has)
  where
    by : (Contains (flat_map f xs) y → (z : X) × Contains xs z × Contains (f z) y) → Contains (f x) y ⊎ Contains (flat_map f xs) y
        → (z : X) × Contains (x ∷ xs) z × Contains (f z) y
    by rest (inl here) = (x, (0, omega arith, refl), here)
    by rest (inr there) = let r = rest there in (r.0, Contains-append_right (x ∷ []) xs r.0 r.1, r.2)

pub in_filter : {X : Type 0} (p : X → Bool) (xs : List X) (x : X) → Contains xs x → p x ≡ true → Contains (filter p xs) x
in_filter p [] x has passes = absurd (none_in x has)
in_filter p (y ∷ ys) x has passes = by (in_filter p ys x) (Contains-append_cases (y ∷ []) ys x has)
  where
    later : (b : Bool) → Contains (filter p ys) x → Contains (cond b (y ∷ filter p ys) (filter p ys)) x
    later true there = Contains-append_right (y ∷ []) (filter p ys) x there
    later false there = there

    by : (Contains ys x → p x ≡ true → Contains (filter p ys) x) → Contains (y ∷ []) x ⊎ Contains ys x
        → Contains (cond (p y) (y ∷ filter p ys) (filter p ys)) x
    by rest (inl here) =
        let same = the_only y x here in
        subst (λ b. Contains (cond b (y ∷ filter p ys) (filter p ys)) x) (sym (ap p same ∙ passes)) (0, omega arith, same)
    by rest (inr there) = later (p y) (rest there passes)

pub from_filter : {X : Type 0} (p : X → Bool) (xs : List X) (x : X) → Contains (filter p xs) x → Contains xs x × (p x ≡ true)
from_filter p [] x has = absurd (none_in x has)
from_filter p (y ∷ ys) x has = by (p y) refl has (from_filter p ys x)
  where
    behind : Contains ys x × (p x ≡ true) → Contains (y ∷ ys) x × (p x ≡ true)
    behind r = (Contains-append_right (y ∷ []) ys x r.0, r.1)

    by : (b : Bool) → p y ≡ b → Contains (cond b (y ∷ filter p ys) (filter p ys)) x
        → (Contains (filter p ys) x → Contains ys x × (p x ≡ true)) → Contains (y ∷ ys) x × (p x ≡ true)
    by true e has rest = elim (Contains-append_cases (y ∷ []) (filter p ys) x has) [
      | inl here ↦ let same = the_only y x here in ((0, omega arith, same), ap p (sym same) ∙ e)
      | inr there ↦ behind (rest there)
    ]
    by false e has rest = behind (rest has)

-- the next one of a filtered list
pub next_filtered : {X : Type 0} (p : X → Bool) (xs : List X) (x : X) → filter p (xs ++ x ∷ []) ≡ filter p xs ++ cond (p x) (x ∷ []) []
next_filtered p [] x = refl
next_filtered {X} p (y ∷ ys) x = by (p y) (next_filtered p ys x)
  where
    by : (b : Bool) → filter p (ys ++ x ∷ []) ≡ filter p ys ++ cond (p x) (x ∷ []) []
        → cond b (y ∷ filter p (ys ++ x ∷ [])) (filter p (ys ++ x ∷ [])) ≡ cond b (y ∷ filter p ys) (filter p ys) ++ cond (p x)
        (x ∷ []) []
    by true e = ap (λ zs. y ∷ zs) e
    by false e = e

-- ---- what a loop has walked

pub next_item : {X : Type 0} (xs : List X) (i : ℕ) (x y : X) → i < length xs → x ≡ get_or xs i x → y ≡ x
    → take i xs ++ y ∷ [] ≡ take (i + 1) xs
next_item xs i x y within is same = ap (λ z. take i xs ++ z ∷ []) same ∙ sym (next_taken xs i x within is)

pub next_mapped : {X Y : Type 0} (f : X → Y) (xs : List X) (i : ℕ) (x : X) (y : Y) → i < length xs → x ≡ get_or xs i x → y ≡ f x
    → map f (take i xs) ++ y ∷ [] ≡ map f (take (i + 1) xs)
next_mapped f xs i x y within is same =
    ap (λ z. map f (take i xs) ++ z ∷ []) same ∙ sym (map-append f (take i xs) (x ∷ [])) ∙ ap (map f) (sym (next_taken xs i x within is))

-- an item of a list, mapped
pub mapped_item : {X Y : Type 0} (f : X → Y) (xs : List X) (i : ℕ) (x : X) → i < length xs → x ≡ get_or xs i x
    → (i < length (map f xs)) × (f x ≡ get_or (map f xs) i (f x))
mapped_item f xs i x within is = (subst (λ n. i < n) (sym (length-map xs f)) within, ap f is ∙ sym (get_or-map f xs i x (f x) within))
