-- Membership by recursion, and what it says of lists that are made of others.
use Rattle.std.proofs.Common.{◌≡◌, ℕ, zero, suc, ◌+◌, ◌≤◌, ◌<◌, Bool, true, false, cond, List, [], ◌∷◌, ◌++◌, length, map, filter, ◌⊎◌, inl, inr, refl, sym, ap, ◌∙◌, subst, arith, true≢false}
use Rattle.std.proofs.lemmas.Bool.{and_parts, and_from, or_cases, or_left, or_right}
use Rattle.std.specs.List.{Contains, flat_map, list_all, list_any}
use Rattle.conda_encode.specs.Variables.{numbered}

abbrev pub In : {A : Type 0} → A → List A → Type 0
In x [] = ⊥
In x (y ∷ ys) = (y ≡ x) ⊎ In x ys

pub from_contains : {A : Type 0} (xs : List A) (x : A) → Contains xs x → In x xs
from_contains [] x (k, lt, e) = absurd (omega arith)
from_contains (y ∷ ys) x (zero, lt, e) = inl e
from_contains (y ∷ ys) x (suc k, lt, e) = inr (from_contains ys x (k, omega arith, e))

pub to_contains : {A : Type 0} (xs : List A) (x : A) → In x xs → Contains xs x
to_contains [] x i = absurd i
to_contains (y ∷ ys) x (inl e) = (zero, omega arith, e)
to_contains (y ∷ ys) x (inr i) = let c : Contains ys x = to_contains ys x i in (suc c.0, omega arith, c.2)

pub in_left : {A : Type 0} (xs ys : List A) (x : A) → In x xs → In x (xs ++ ys)
in_left [] ys x i = absurd i
in_left (z ∷ xs) ys x (inl e) = inl e
in_left (z ∷ xs) ys x (inr i) = inr (in_left xs ys x i)

pub in_right : {A : Type 0} (xs ys : List A) (x : A) → In x ys → In x (xs ++ ys)
in_right [] ys x i = i
in_right (z ∷ xs) ys x i = inr (in_right xs ys x i)

pub in_either : {A : Type 0} (xs ys : List A) (x : A) → In x (xs ++ ys) → In x xs ⊎ In x ys
in_either [] ys x i = inr i
in_either (z ∷ xs) ys x (inl e) = inl (inl e)
in_either (z ∷ xs) ys x (inr i) = elim (in_either xs ys x i) [ inl h ↦ inl (inr h) | inr h ↦ inr h ]

pub in_map : {A B : Type 0} (f : A → B) (xs : List A) (x : A) → In x xs → In (f x) (map f xs)
in_map f [] x i = absurd i
in_map f (y ∷ ys) x (inl e) = inl (ap f e)
in_map f (y ∷ ys) x (inr i) = inr (in_map f ys x i)

pub of_map : {A B : Type 0} (f : A → B) (xs : List A) (y : B) → In y (map f xs) → (x : A) × In x xs × (f x ≡ y)
of_map f [] y i = absurd i
of_map f (x ∷ xs) y (inl e) = (x, inl refl, e)
of_map {A} {B} f (x ∷ xs) y (inr i) =
    let w : (z : A) × In z xs × (f z ≡ y) = of_map f xs y i in (w.0, inr w.1, w.2)

kept_in : {A : Type 0} (b : Bool) (y x : A) (rest : List A) → b ≡ true → (y ≡ x) ⊎ In x rest → In x (cond b (y ∷ rest) rest)
kept_in true y x rest h i = i
kept_in false y x rest h i = absurd (true≢false (sym h))

later_in : {A : Type 0} (b : Bool) (y x : A) (rest : List A) → In x rest → In x (cond b (y ∷ rest) rest)
later_in true y x rest i = inr i
later_in false y x rest i = i

pub in_filter : {A : Type 0} (p : A → Bool) (xs : List A) (x : A) → In x xs → p x ≡ true → In x (filter p xs)
in_filter p [] x i h = absurd i
in_filter p (y ∷ ys) x (inl e) h = kept_in (p y) y x (filter p ys) (ap p e ∙ h) (inl e)
in_filter p (y ∷ ys) x (inr i) h = later_in (p y) y x (filter p ys) (in_filter p ys x i h)

of_kept : {A : Type 0} (p : A → Bool) (b : Bool) (y x : A) (rest : List A) → p y ≡ b → In x (cond b (y ∷ rest) rest) → ((y ≡ x) × (p x ≡ true)) ⊎ In x rest
of_kept p true y x rest e (inl same) = inl (same, ap p (sym same) ∙ e)
of_kept p true y x rest e (inr i) = inr i
of_kept p false y x rest e i = inr i

pub of_filter : {A : Type 0} (p : A → Bool) (xs : List A) (x : A) → In x (filter p xs) → In x xs × (p x ≡ true)
of_filter p [] x i = absurd i
of_filter p (y ∷ ys) x i =
    elim (of_kept p (p y) y x (filter p ys) refl i) [
      | inl h ↦ (inl h.0, h.1)
      | inr h ↦ (inr (of_filter p ys x h).0, (of_filter p ys x h).1)
    ]

pub in_flat_map : {A B : Type 0} (f : A → List B) (xs : List A) (x : A) (y : B) → In x xs → In y (f x) → In y (flat_map f xs)
in_flat_map f [] x y i j = absurd i
in_flat_map {A} {B} f (z ∷ zs) x y (inl e) j =
    in_left (f z) (flat_map f zs) y (let P : A → Type 0 = λ u. In y (f u) in subst P (sym e) j)
in_flat_map f (z ∷ zs) x y (inr i) j = in_right (f z) (flat_map f zs) y (in_flat_map f zs x y i j)

pub of_flat_map : {A B : Type 0} (f : A → List B) (xs : List A) (y : B) → In y (flat_map f xs) → (x : A) × In x xs × In y (f x)
of_flat_map f [] y i = absurd i
of_flat_map {A} {B} f (z ∷ zs) y i =
    elim (in_either (f z) (flat_map f zs) y i) [
      | inl h ↦ (z, inl refl, h)
      | inr h ↦ let w : (x : A) × In x zs × In y (f x) = of_flat_map f zs y h in (w.0, inr w.1, w.2)
    ]

pub all_at : {A : Type 0} (p : A → Bool) (xs : List A) (x : A) → list_all p xs ≡ true → In x xs → p x ≡ true
all_at p [] x every i = absurd i
all_at p (y ∷ ys) x every (inl e) = ap p (sym e) ∙ (and_parts (p y) (list_all p ys) every).0
all_at p (y ∷ ys) x every (inr i) = all_at p ys x (and_parts (p y) (list_all p ys) every).1 i

pub all_from : {A : Type 0} (p : A → Bool) (xs : List A) → ((x : A) → In x xs → p x ≡ true) → list_all p xs ≡ true
all_from p [] each = refl
all_from p (y ∷ ys) each = and_from (p y) (list_all p ys) (each y (inl refl)) (all_from p ys (λ x i. each x (inr i)))

pub any_from : {A : Type 0} (p : A → Bool) (xs : List A) (x : A) → In x xs → p x ≡ true → list_any p xs ≡ true
any_from p [] x i h = absurd i
any_from p (y ∷ ys) x (inl e) h = or_left (p y) (list_any p ys) (ap p e ∙ h)
any_from p (y ∷ ys) x (inr i) h = or_right (p y) (list_any p ys) (any_from p ys x i h)

pub any_at : {A : Type 0} (p : A → Bool) (xs : List A) → list_any p xs ≡ true → (x : A) × In x xs × (p x ≡ true)
any_at p [] h = absurd (true≢false (sym h))
any_at {A} p (y ∷ ys) h =
    elim (or_cases (p y) (list_any p ys) h) [
      | inl e ↦ (y, inl refl, e)
      | inr e ↦ let w : (x : A) × In x ys × (p x ≡ true) = any_at p ys e in (w.0, inr w.1, w.2)
    ]

-- ---- numbered things

pub number_low : {A : Type 0} (s : ℕ) (xs : List A) (x : ℕ × A) → In x (numbered s xs) → s ≤ x.0
number_low s [] x i = absurd i
number_low {A} s (y ∷ ys) x (inl e) = let h : s ≡ x.0 = ap (λ (u : ℕ × A). u.0) e in omega arith
number_low s (y ∷ ys) x (inr i) = let h : s + 1 ≤ x.0 = number_low (s + 1) ys x i in omega arith

pub number_high : {A : Type 0} (s : ℕ) (xs : List A) (x : ℕ × A) → In x (numbered s xs) → x.0 < s + length xs
number_high s [] x i = absurd i
number_high {A} s (y ∷ ys) x (inl e) = let h : s ≡ x.0 = ap (λ (u : ℕ × A). u.0) e in omega arith
number_high s (y ∷ ys) x (inr i) = let h : x.0 < s + 1 + length ys = number_high (s + 1) ys x i in omega arith

pub number_of : {A : Type 0} (s : ℕ) (xs : List A) (x : A) → In x xs → (n : ℕ) × In (n, x) (numbered s xs)
number_of s [] x i = absurd i
number_of s (y ∷ ys) x (inl e) = (s, inl (ap (λ u. (s, u)) e))
number_of {A} s (y ∷ ys) x (inr i) = let w : (n : ℕ) × In (n, x) (numbered (s + 1) ys) = number_of (s + 1) ys x i in (w.0, inr w.1)

pub numbered_in : {A : Type 0} (s : ℕ) (xs : List A) (x : ℕ × A) → In x (numbered s xs) → In x.1 xs
numbered_in s [] x i = absurd i
numbered_in {A} s (y ∷ ys) x (inl e) = inl (ap (λ (u : ℕ × A). u.1) e)
numbered_in s (y ∷ ys) x (inr i) = inr (numbered_in (s + 1) ys x i)

pub number_once : {A : Type 0} (s : ℕ) (xs : List A) (x y : ℕ × A) → In x (numbered s xs) → In y (numbered s xs) → x.0 ≡ y.0 → x.1 ≡ y.1
number_once s [] x y i j e = absurd i
number_once {A} s (z ∷ zs) x y (inl a) (inl b) e = ap (λ (u : ℕ × A). u.1) (sym a ∙ b)
number_once {A} s (z ∷ zs) x y (inl a) (inr j) e =
    let l : s + 1 ≤ y.0 = number_low (s + 1) zs y j in
    let h : s ≡ x.0 = ap (λ (u : ℕ × A). u.0) a in absurd (omega arith)
number_once {A} s (z ∷ zs) x y (inr i) (inl b) e =
    let l : s + 1 ≤ x.0 = number_low (s + 1) zs x i in
    let h : s ≡ y.0 = ap (λ (u : ℕ × A). u.0) b in absurd (omega arith)
number_once s (z ∷ zs) x y (inr i) (inr j) e = number_once (s + 1) zs x y i j e
