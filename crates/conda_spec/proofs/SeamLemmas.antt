-- Lemmas on where a text is cut in two.
use Rattle.conda_spec.specs.Parts.{NoneOf}
use Rattle.std.proofs.Common.{◌≡◌, ◌==◌, ℕ, Bool, true, List, [], ◌∷◌, ◌++◌, refl, ap, arith}
use Rattle.std.proofs.lemmas.Bool.Decides.{nat_tests}
use Rattle.std.specs.Prelude.{Some}
use Rattle.std.specs.Option.{option_map}
use Rattle.conda_base.specs.Texts.{in_front}
use Rattle.conda_spec.specs.Cuts.{cut_colons, without_last}

-- this very character
abbrev pub is_this : ℕ → ℕ → Bool
is_this mark b = b == mark

itself : (mark : ℕ) → is_this mark mark ≡ true
itself mark = grind (arith, nat_tests)

pub colons_cut : (xs ys : List ℕ) → NoneOf (is_this 58) xs → cut_colons (xs ++ (58 ∷ 58 ∷ ys)) ≡ Some (xs, ys)
colons_cut [] ys h = refl
colons_cut (x ∷ xs) ys h = rw (h.0) (ap (option_map (in_front x)) (colons_cut xs ys h.1))

pub last_off : (mark : ℕ) (xs : List ℕ) → without_last mark (xs ++ (mark ∷ [])) ≡ Some xs
last_off mark [] = rw (itself mark) refl
last_off mark (x ∷ []) = ap (option_map (λ front. x ∷ front)) (last_off mark [])
last_off mark (x ∷ y ∷ xs) = ap (option_map (λ front. x ∷ front)) (last_off mark (y ∷ xs))
