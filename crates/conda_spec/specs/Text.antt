-- The normal form of a specification: conda's match_spec.py, in this project's profile.
use Rattle.std.specs.Prelude.{ℕ, List, [], ◌∷◌, ◌++◌, codes, Option, None, Some}
use Rattle.std.specs.Fmt.{decimal}
use Rattle.conda_spec.specs.Parts.{Parts}

-- the channel before the name, as `channel::`
abbrev pub channel_text : Option (List ℕ) → List ℕ
channel_text None = []
channel_text (Some channel) = channel ++ codes "::"

-- a word behind a space
abbrev pub word_text : Option (List ℕ) → List ℕ
word_text None = []
word_text (Some word) = 32 ∷ word

-- the brackets: what a specification gives that stands nowhere else
abbrev pub brackets_text : Option ℕ → Option (List ℕ) → List ℕ
brackets_text None None = []
brackets_text (Some number) None = codes "[build_number=" ++ (decimal number ++ codes "]")
brackets_text None (Some subdir) = codes "[subdir=" ++ (subdir ++ codes "]")
brackets_text (Some number) (Some subdir) = codes "[build_number=" ++ (decimal number ++ (codes ",subdir=" ++ (subdir ++ codes "]")))

-- `[channel::]name[ version[ build]]`, and the brackets
abbrev pub spec_text : Parts → List ℕ
spec_text spec =
    channel_text spec.channel ++ (spec.name ++ (word_text spec.version ++ (word_text spec.build ++ brackets_text spec.number spec.subdir)))
