-- Membership by recursion on a list: what tests, maps and joined lists have.
use Rattle.std.specs.Prelude.{◌≡◌, ℕ, ◌+◌, ◌<◌, zero, suc, Bool, true, List, [], ◌∷◌, ◌++◌, length, map, flat_map, slice_index_or}
use Rattle.std.proofs.Common.{refl, ap, sym, ◌∙◌, subst, inl, inr, ◌⊎◌, arith}
use Rattle.std.proofs.lemmas.Bool.{or_cases, or_left, or_right, true≢false}
use Rattle.std.specs.List.{AllPairs, Contains, list_any}
use Rattle.std.proofs.Math.Seq.{drop-cons}
use Rattle.std.proofs.Common.{◌≤◌, drop, take, get_or, add-one}

abbrev pub IsIn : {X : Type 0} → X → List X → Type 0
IsIn x [] = ⊥
IsIn x (y ∷ ys) = (y ≡ x) ⊎ IsIn x ys

in_at : {X : Type 0} (xs : List X) (x : X) (k : ℕ) → k < length xs → slice_index_or xs k x ≡ x → IsIn x xs
in_at [] x k q e = absurd (omega (arith, q))
in_at (y ∷ ys) x zero q e = inl e
in_at (y ∷ ys) x (suc k) q e = inr (in_at ys x k (omega (arith, q)) e)

pub in_from_Contains : {X : Type 0} (xs : List X) (x : X) → Contains xs x → IsIn x xs
in_from_Contains xs x h = in_at xs x h.0 h.1 h.2

pub Contains_from_in : {X : Type 0} (xs : List X) (x : X) → IsIn x xs → Contains xs x
Contains_from_in [] x h = absurd h
Contains_from_in (y ∷ ys) x (inl e) = (0, omega arith, e)
Contains_from_in (y ∷ ys) x (inr h) = let r = Contains_from_in ys x h in (suc r.0, omega (arith, r.1), r.2)

-- ---- tests

pub any_from_in : {X : Type 0} (p : X → Bool) (xs : List X) (x : X) → IsIn x xs → p x ≡ true → list_any p xs ≡ true
any_from_in p [] x h e = absurd h
any_from_in p (y ∷ ys) x (inl g) e = or_left (p y) (list_any p ys) (ap p g ∙ e)
any_from_in p (y ∷ ys) x (inr h) e = or_right (p y) (list_any p ys) (any_from_in p ys x h e)

pub in_from_any : {X : Type 0} (p : X → Bool) (xs : List X) → list_any p xs ≡ true → (x : X) × IsIn x xs × (p x ≡ true)
in_from_any p [] h = absurd (true≢false (sym h))
in_from_any {X} p (y ∷ ys) h = by (in_from_any p ys) (or_cases (p y) (list_any p ys) h)
  where
    by : (list_any p ys ≡ true → (x : X) × IsIn x ys × (p x ≡ true)) → ((p y ≡ true) ⊎ (list_any p ys ≡ true)) → (x : X) × IsIn x (y ∷ ys) × (p x ≡ true)
    by rest (inl e) = (y, inl refl, e)
    by rest (inr g) = let r = rest g in (r.0, inr r.1, r.2)

-- ---- mapped and joined lists

pub in_map : {X Y : Type 0} (f : X → Y) (xs : List X) (x : X) → IsIn x xs → IsIn (f x) (map f xs)
in_map f [] x h = absurd h
in_map f (y ∷ ys) x (inl e) = inl (ap f e)
in_map f (y ∷ ys) x (inr h) = inr (in_map f ys x h)

pub from_map : {X Y : Type 0} (f : X → Y) (xs : List X) (y : Y) → IsIn y (map f xs) → (x : X) × IsIn x xs × (f x ≡ y)
from_map f [] y h = absurd h
from_map f (x ∷ xs) y (inl e) = (x, inl refl, e)
from_map f (x ∷ xs) y (inr h) = let r = from_map f xs y h in (r.0, inr r.1, r.2)

pub in_left : {X : Type 0} (xs ys : List X) (x : X) → IsIn x xs → IsIn x (xs ++ ys)
in_left [] ys x h = absurd h
in_left (y ∷ xs) ys x (inl e) = inl e
in_left (y ∷ xs) ys x (inr h) = inr (in_left xs ys x h)

pub in_right : {X : Type 0} (xs ys : List X) (x : X) → IsIn x ys → IsIn x (xs ++ ys)
in_right [] ys x h = h
in_right (y ∷ xs) ys x h = inr (in_right xs ys x h)

pub in_cases : {X : Type 0} (xs ys : List X) (x : X) → IsIn x (xs ++ ys) → IsIn x xs ⊎ IsIn x ys
in_cases [] ys x h = inr h
in_cases (y ∷ xs) ys x (inl e) = inl (inl e)
in_cases (y ∷ xs) ys x (inr h) = by (in_cases xs ys x h)
  where
    by : IsIn x xs ⊎ IsIn x ys → IsIn x (y ∷ xs) ⊎ IsIn x ys
    by (inl g) = inl (inr g)
    by (inr g) = inr g

pub in_flat : {X Y : Type 0} (f : X → List Y) (xs : List X) (x : X) (y : Y) → IsIn x xs → IsIn y (f x) → IsIn y (flat_map f xs)
in_flat f [] x y h g = absurd h
in_flat f (z ∷ xs) x y (inl e) g = in_left (f z) (flat_map f xs) y (subst (λ w. IsIn y (f w)) (sym e) g)
in_flat f (z ∷ xs) x y (inr h) g = in_right (f z) (flat_map f xs) y (in_flat f xs x y h g)

pub from_flat : {X Y : Type 0} (f : X → List Y) (xs : List X) (y : Y) → IsIn y (flat_map f xs) → (x : X) × IsIn x xs × IsIn y (f x)
from_flat f [] y h = absurd h
from_flat {X} f (z ∷ xs) y h = by (from_flat f xs y) (in_cases (f z) (flat_map f xs) y h)
  where
    by : (IsIn y (flat_map f xs) → (x : X) × IsIn x xs × IsIn y (f x)) → IsIn y (f z) ⊎ IsIn y (flat_map f xs) → (x : X) × IsIn x (z ∷ xs) × IsIn y (f x)
    by rest (inl g) = (z, inl refl, g)
    by rest (inr g) = let r = rest g in (r.0, inr r.1, r.2)

-- ---- pairs of a list

abbrev pub Pairs : {X : Type 0} → (X → X → Type 0) → List X → Type 0
Pairs R [] = Unit {0}
Pairs {X} R (x ∷ xs) = ((y : X) → IsIn y xs → R x y) × Pairs R xs

in_place : {X : Type 0} (xs : List X) (x : X) → IsIn x xs → (d : X) → (k : ℕ) × (k < length xs) × (slice_index_or xs k d ≡ x)
in_place [] x h d = absurd h
in_place (y ∷ ys) x (inl e) d = (0, omega arith, e)
in_place (y ∷ ys) x (inr h) d = let r = in_place ys x h d in (suc r.0, omega (arith, r.1), r.2)

pub pairs_from_all : {X : Type 0} (R : X → X → Type 0) (xs : List X) → AllPairs R xs → Pairs R xs
pairs_from_all R [] h = tt
pairs_from_all R (x ∷ xs) h =
    (λ y g. let r = in_place xs y g x in subst (R x) r.2 (h 0 (suc r.0) x (omega arith) (omega (arith, r.1))), pairs_from_all R xs (λ i j d p q. h (suc i) (suc j) d (omega (arith, p)) (omega (arith, q))))

at_in : {X : Type 0} (xs : List X) (k : ℕ) (d : X) → k < length xs → IsIn (slice_index_or xs k d) xs
at_in [] k d q = absurd (omega (arith, q))
at_in (y ∷ ys) zero d q = inl refl
at_in (y ∷ ys) (suc k) d q = inr (at_in ys k d (omega (arith, q)))

pub all_from_pairs : {X : Type 0} (R : X → X → Type 0) (xs : List X) → Pairs R xs → AllPairs R xs
all_from_pairs R [] h i j d p q = absurd (omega (arith, q))
all_from_pairs R (x ∷ xs) h zero zero d p q = absurd (omega (arith, p))
all_from_pairs R (x ∷ xs) h zero (suc j) d p q = h.0 (slice_index_or xs j d) (at_in xs j d (omega (arith, q)))
all_from_pairs R (x ∷ xs) h (suc i) zero d p q = absurd (omega (arith, p))
all_from_pairs R (x ∷ xs) h (suc i) (suc j) d p q = all_from_pairs R xs h.1 i j d (omega (arith, p)) (omega (arith, q))

pub pairs_append : {X : Type 0} (R : X → X → Type 0) (xs ys : List X) → Pairs R xs → Pairs R ys → ((x y : X) → IsIn x xs → IsIn y ys → R x y) → Pairs R (xs ++ ys)
pairs_append R [] ys h g k = g
pairs_append {X} R (x ∷ xs) ys h g k =
    (λ y m. by y (in_cases xs ys y m), pairs_append R xs ys h.1 g (λ a b p q. k a b (inr p) q))
  where
    by : (y : X) → IsIn y xs ⊎ IsIn y ys → R x y
    by y (inl p) = h.0 y p
    by y (inr p) = k x y (inl refl) p

-- what is left of a list, from an element on
pub drop_item : {X : Type 0} (xs : List X) (i : ℕ) (x : X) → i < length xs → x ≡ get_or xs i x → drop i xs ≡ x ∷ drop (i + 1) xs
drop_item xs i x q e =
    drop-cons xs i x q ∙ ap (λ z. z ∷ drop (suc i) xs) (sym e) ∙ ap (λ k. x ∷ drop k xs) (sym (add-one i))

pub drop_all : {X : Type 0} (xs : List X) (i : ℕ) → length xs ≤ i → drop i xs ≡ []
drop_all [] zero q = refl
drop_all [] (suc i) q = refl
drop_all (x ∷ xs) zero q = absurd (omega (arith, q))
drop_all (x ∷ xs) (suc i) q = drop_all xs i (omega (arith, q))

pub take_all : {X : Type 0} (xs : List X) (i : ℕ) → length xs ≤ i → take i xs ≡ xs
take_all [] zero q = refl
take_all [] (suc i) q = refl
take_all (x ∷ xs) zero q = absurd (omega (arith, q))
take_all (x ∷ xs) (suc i) q = ap (λ r. x ∷ r) (take_all xs i (omega (arith, q)))
