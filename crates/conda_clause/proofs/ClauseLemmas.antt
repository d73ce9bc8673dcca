-- Lemmas on the text of a clause.
use Rattle.std.proofs.Common.{◌≡◌, ℕ, List, [], ◌∷◌, map, refl, ap, ◌∙◌}
use Rattle.std.proofs.lemmas.Str.Ascii.{lowercase-lowercase}
use Rattle.std.specs.Char.{to_ascii_lowercase}

-- what is in lower case stays so
pub lowered_twice : (xs : List ℕ) → map to_ascii_lowercase (map to_ascii_lowercase xs) ≡ map to_ascii_lowercase xs
lowered_twice [] = refl
lowered_twice (x ∷ xs) =
    ap (λ b. b ∷ map to_ascii_lowercase (map to_ascii_lowercase xs)) (lowercase-lowercase x)
    ∙ ap (λ bs. to_ascii_lowercase x ∷ bs) (lowered_twice xs)
