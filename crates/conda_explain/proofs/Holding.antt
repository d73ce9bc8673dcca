-- Lists of clauses that hold a clause.
use Rattle.std.proofs.Common.{◌≡◌, ℤ, Bool, true, false, ◌||◌, List, [], ◌∷◌, ◌++◌, map, refl, sym, ap, inl, inr}
use Rattle.std.specs.List.{Contains, list_any}
use Rattle.std.specs.Cmp.Lexicographic.{pointwise_decides}
use Rattle.std.proofs.lemmas.Bool.{or_cases, or_left, or_right}
use Rattle.std.proofs.lemmas.Bool.Decides.{Decides-int_eq}
use Rattle.std.proofs.lemmas.List.Folds.{list_any-append}
use Rattle.conda_encode.proofs.Members.{In, from_contains, to_contains}
use Rattle.conda_explain.specs.Shown.{holds, is_clause}

pub same_clause : (a b : List ℤ) → is_clause a b ≡ true → a ≡ b
same_clause a b h = (pointwise_decides Decides-int_eq a b).0 h

pub own_clause : (a b : List ℤ) → a ≡ b → is_clause a b ≡ true
own_clause a b e = (pointwise_decides Decides-int_eq a b).1 e

pub holds-append : (xs ys : List (List ℤ)) (c : List ℤ) → holds (xs ++ ys) c ≡ (holds xs c || holds ys c)
holds-append xs ys c = list_any-append (is_clause c) xs ys

pub In-from_holds : (xs : List (List ℤ)) (c : List ℤ) → holds xs c ≡ true → In c xs
In-from_holds [] c h = absurd (false_true h)
  where
    false_true : false ≡ true → ⊥
    false_true e = cc
In-from_holds (x ∷ xs) c h =
    elim (or_cases (is_clause c x) (holds xs c) h) [
      | inl e ↦ inl (sym (same_clause c x e))
      | inr e ↦ inr (In-from_holds xs c e)
    ]

pub holds-from_In : (xs : List (List ℤ)) (c : List ℤ) → In c xs → holds xs c ≡ true
holds-from_In [] c i = absurd i
holds-from_In (x ∷ xs) c (inl e) = or_left (is_clause c x) (holds xs c) (own_clause c x (sym e))
holds-from_In (x ∷ xs) c (inr i) = or_right (is_clause c x) (holds xs c) (holds-from_In xs c i)

pub Contains-from_holds : (xs : List (List ℤ)) (c : List ℤ) → holds xs c ≡ true → Contains xs c
Contains-from_holds xs c h = to_contains xs c (In-from_holds xs c h)

pub holds-from_Contains : (xs : List (List ℤ)) (c : List ℤ) → Contains xs c → holds xs c ≡ true
holds-from_Contains xs c h = holds-from_In xs c (from_contains xs c h)

pub or_false : (b : Bool) → (b || false) ≡ b
or_false true = refl
or_false false = refl

pub list_any-map : {A B : Type 0} (p : B → Bool) (f : A → B) (xs : List A) → list_any p (map f xs) ≡ list_any (λ x. p (f x)) xs
list_any-map p f [] = refl
list_any-map p f (x ∷ xs) = ap (λ b. p (f x) || b) (list_any-map p f xs)
