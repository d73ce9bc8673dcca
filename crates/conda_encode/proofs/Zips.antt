-- Two lists of one length, as a list of pairs.
use Rattle.std.proofs.Common.{◌≡◌, List, [], ◌∷◌, ◌++◌, length, map, refl, ap, arith}
use Rattle.std.specs.List.{zip}

pub zip_push : {A B : Type 0} (xs : List A) (ys : List B) (x : A) (y : B) → length xs ≡ length ys → zip (xs ++ x ∷ []) (ys ++ y ∷ []) ≡ zip xs ys ++ (x, y) ∷ []
zip_push [] [] x y e = refl
zip_push [] (b ∷ ys) x y e = absurd (omega arith)
zip_push (a ∷ xs) [] x y e = absurd (omega arith)
zip_push (a ∷ xs) (b ∷ ys) x y e = ap (λ zs. (a, b) ∷ zs) (zip_push xs ys x y (omega arith))

pub zip_left : {A B : Type 0} (xs : List A) (ys : List B) → length xs ≡ length ys → xs ≡ map (λ (p : A × B). p.0) (zip xs ys)
zip_left [] [] e = refl
zip_left [] (b ∷ ys) e = absurd (omega arith)
zip_left (a ∷ xs) [] e = absurd (omega arith)
zip_left (a ∷ xs) (b ∷ ys) e = ap (λ zs. a ∷ zs) (zip_left xs ys (omega arith))

pub zip_right : {A B : Type 0} (xs : List A) (ys : List B) → length xs ≡ length ys → ys ≡ map (λ (p : A × B). p.1) (zip xs ys)
zip_right [] [] e = refl
zip_right [] (b ∷ ys) e = absurd (omega arith)
zip_right (a ∷ xs) [] e = absurd (omega arith)
zip_right (a ∷ xs) (b ∷ ys) e = ap (λ zs. b ∷ zs) (zip_right xs ys (omega arith))
