-- Which texts a pattern with stars stands for: conda's match_spec.py.
use Rattle.std.specs.Prelude.{ℕ, Bool, true, false, ◌==◌, ◌||◌, ◌&&◌, if◌then◌else◌, List, [], ◌∷◌}
use Rattle.std.specs.Char.{to_ascii_lowercase}
use Rattle.conda_base.specs.Signs.{star}
use Rattle.conda_clause.specs.declared.star.Letters.{Letters}
use Rattle.conda_clause.specs.declared.star.Letters.TheVariants.{AsTheyAre, Lowered}

-- the text begins with this character, and what is behind it passes
abbrev pub begins : ℕ → (List ℕ → Bool) → List ℕ → Bool
begins c passes [] = false
begins c passes (b ∷ bs) = b == c && passes bs

-- some end of the text passes: the whole text, or an end of what is behind its first character
abbrev pub some_end : (List ℕ → Bool) → List ℕ → Bool
some_end passes [] = passes []
some_end passes (b ∷ bs) = passes (b ∷ bs) || some_end passes bs

-- The empty pattern is the empty text's. Behind a star some end of the text is of the pattern;
-- every other character stands for itself.
abbrev pub glob_matches : List ℕ → List ℕ → Bool
glob_matches [] [] = true
glob_matches [] (b ∷ bs) = false
glob_matches (c ∷ pattern) text =
    if c == star then some_end (glob_matches pattern) text else begins c (glob_matches pattern) text

-- a character as it is, or a capital letter as the small one
abbrev pub letter : Letters → ℕ → ℕ
letter AsTheyAre b = b
letter Lowered b = to_ascii_lowercase b
