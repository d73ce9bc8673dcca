-- Which spaces of a specification are dropped: conda's match_spec.py, in this project's profile.
use Rattle.std.specs.Prelude.{ℕ, Bool, false, not, ◌==◌, ◌||◌, ◌+◌, ◌-◌, if◌then◌else◌, List, [], ◌∷◌, ◌++◌, map, length, Option, None, Some, slice_get}
use Rattle.std.specs.Char.{to_ascii_lowercase}
use Rattle.std.specs.List.{slice_split}
use Rattle.std.specs.Option.{option_or}
use Rattle.conda_base.specs.Signs.{bar, comma, equals, greater, less, space}

-- `,` or `|`: the spaces before it are dropped
abbrev pub is_joint : ℕ → Bool
is_joint b = b == comma || b == bar

-- one of these, `<`, `>` or `=`: the spaces behind it are dropped
abbrev pub drops_behind : ℕ → Bool
drops_behind b = is_joint b || b == less || b == greater || b == equals

-- the last character of a run, or what ended the run before where it is empty
abbrev pub last_of : Option ℕ → List ℕ → Option ℕ
last_of last run = option_or (slice_get run (length run - 1)) last

-- a space stays between a run that ends with the one character and a run that begins with the other
abbrev pub has_gap : Option ℕ → ℕ → Bool
has_gap None b = false
has_gap (Some last) b = not (drops_behind last || is_joint b)

-- the characters of a run that begins at a place, each behind its place
abbrev pub chars_at : ℕ → List ℕ → List (ℕ × ℕ)
chars_at at [] = []
chars_at at (b ∷ bs) = (at, b) ∷ chars_at (at + 1) bs

-- the same with the space before it that stays, where the run before ends with this character
abbrev pub run_chars : Option ℕ → ℕ → List ℕ → List (ℕ × ℕ)
run_chars last at [] = []
run_chars last at (b ∷ bs) =
    if has_gap last b then (at - 1, space) ∷ chars_at at (b ∷ bs) else chars_at at (b ∷ bs)

-- What stays of the runs from a place on, behind a run that ends with this character. An empty run
-- stands between two spaces.
abbrev pub kept_runs : Option ℕ → ℕ → List (List ℕ) → List (ℕ × ℕ)
kept_runs last at [] = []
kept_runs last at (run ∷ runs) =
    run_chars last at run ++ kept_runs (last_of last run) (at + length run + 1) runs

-- the characters that stay, each behind its place
abbrev pub kept_chars : List ℕ → List (ℕ × ℕ)
kept_chars text = kept_runs None 0 (slice_split (λ b. b == space) text)

-- the characters that stay
abbrev pub kept : List ℕ → List ℕ
kept text = map (λ m. m.1) (kept_chars text)

-- the place of each in the text
abbrev pub places : List ℕ → List ℕ
places text = map (λ m. m.0) (kept_chars text)

-- the text of a version clause, without the spaces that are dropped and in lower case
abbrev pub clause_text : List ℕ → List ℕ
clause_text text = map to_ascii_lowercase (kept text)
