-- The grammar of versions, and what each means: conda's version.py.
use Rattle.std.specs.Prelude.{ℕ, Bool, codes, true, false, not, ◌==◌, ◌||◌, ◌≡◌, ◌≤◌, ◌<◌, if◌then◌else◌, List, [], ◌∷◌, ◌++◌, map, length, Option, None, Some}
use Rattle.std.specs.Char.{is_ascii_digit, is_ascii_lowercase}
use Rattle.std.specs.List.{concat, list_all}
use Rattle.std.specs.Str.Parse.{digits_value}
use Rattle.conda_base.specs.Numbers.{is_digits}
use Rattle.conda_base.specs.Signs.{dot, exclamation, plus, underscore}
use Rattle.conda_base.specs.Texts.{is_text}
use Rattle.conda_version.specs.declared.run.Run.{Run}
use Rattle.conda_version.specs.declared.run.Run.TheVariants.{Number, Post, Word}
use Rattle.conda_version.specs.Text.{plain}

-- What a version means: the number of its epoch, and the components of its main and of its local part, each a list of runs.
pub record Meaning : Type 0 where
  pub epoch : ℕ
  pub main : List (List Run)
  pub local : List (List Run)

-- ---- runs

-- a letter; a `_` is one too, where it parts no components
abbrev pub is_letter : ℕ → Bool
is_letter b = is_ascii_lowercase b || b == underscore

-- digits, 1 to 38
abbrev pub IsNumeral : List ℕ → Type 0
IsNumeral text = (is_digits text ≡ true) × (length text ≤ 38)

-- letters, at least one
abbrev pub IsWord : List ℕ → Type 0
IsWord text = (0 < length text) × (list_all is_letter text ≡ true)

-- a run is digits or a word, as the flag says
abbrev pub IsRun : Bool → List ℕ → Type 0
IsRun true text = IsNumeral text
IsRun false text = IsWord text

-- what a word means: `dev` is written `DEV`, which comes before every other text
abbrev pub word_of : List ℕ → Run
word_of text = if is_text text (codes "post") then Post else if is_text text (codes "dev") then Word (codes "DEV") else Word text

abbrev pub begins_with_digit : List ℕ → Bool
begins_with_digit [] = false
begins_with_digit (b ∷ bs) = is_ascii_digit b

-- what a run means: digits mean their number
abbrev pub run_of : List ℕ → Run
run_of run = if begins_with_digit run then Number (digits_value 10 run) else word_of run

-- ---- components

-- runs of digits and words by turns, digits first where the flag says so
abbrev pub TakeTurns : Bool → List (List ℕ) → Type 0
TakeTurns digits [] = Unit {0}
TakeTurns digits (run ∷ runs) = IsRun digits run × TakeTurns (not digits) runs

-- the number 0 stands in front where no digits do
abbrev pub with_zero : Bool → List Run → List Run
with_zero true runs = runs
with_zero false runs = Number 0 ∷ runs

-- a component is runs by turns, at least one
pub record IsComponent (text : List ℕ) (component : List Run) : Type 0 where
  pub digits_first : Bool
  pub runs : List (List ℕ)
  pub some : 0 < length runs
  pub whole : text ≡ concat runs
  pub turns : TakeTurns digits_first runs
  pub means : component ≡ with_zero digits_first (map run_of runs)

-- components with a `.` between each two, at least one
abbrev pub AreComponents : List ℕ → List (List Run) → Type 0
AreComponents text [] = ⊥
AreComponents text (component ∷ []) = IsComponent text component
AreComponents text (component ∷ next ∷ more) =
    (front : List ℕ) × (rest : List ℕ) × (text ≡ front ++ dot ∷ rest) × IsComponent front component × AreComponents rest (next ∷ more)

-- ---- versions

-- `_` as `.`
abbrev pub as_dot : ℕ → ℕ
as_dot b = if b == underscore then dot else b

-- each `_` but one at the very end as `.`
abbrev pub main_dots : List ℕ → List ℕ
main_dots [] = []
main_dots (b ∷ []) = b ∷ []
main_dots (b ∷ c ∷ bs) = as_dot b ∷ main_dots (c ∷ bs)

-- an epoch is a numeral, and 0 where there is none
abbrev pub IsEpoch : Option (List ℕ) → ℕ → Type 0
IsEpoch None epoch = epoch ≡ 0
IsEpoch (Some digits) epoch = IsNumeral digits × (epoch ≡ digits_value 10 digits)

-- a local part has components, where there is one
abbrev pub IsLocal : Option (List ℕ) → List (List Run) → Type 0
IsLocal None components = components ≡ []
IsLocal (Some text) components = AreComponents (map as_dot text) components

-- `!` ends an epoch
abbrev pub epoch_text : Option (List ℕ) → List ℕ
epoch_text None = []
epoch_text (Some digits) = digits ++ exclamation ∷ []

-- `+` begins a local part
abbrev pub local_text : Option (List ℕ) → List ℕ
local_text None = []
local_text (Some text) = plus ∷ text

-- a version in small letters: the epoch, the main part and the local part, of which the first and the last may be absent
pub record IsVersion (text : List ℕ) (version : Meaning) : Type 0 where
  pub epoch : Option (List ℕ)
  pub main : List ℕ
  pub local : Option (List ℕ)
  pub whole : text ≡ epoch_text epoch ++ (main ++ local_text local)
  pub epoch_means : IsEpoch epoch version.epoch
  pub main_means : AreComponents (main_dots main) version.main
  pub local_means : IsLocal local version.local

-- the text of a version, in any case, and with `-` for `_` where it holds no `_`
abbrev pub IsVersionText : List ℕ → Meaning → Type 0
IsVersionText text version = IsVersion (plain text) version
