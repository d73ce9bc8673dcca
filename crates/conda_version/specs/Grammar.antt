-- How a text is read as a version, and the first fault of one that is none: conda's version.py.
-- What is read is in the grammar of versions, and the other way round: the laws of grammar say so.
use Rattle.std.specs.Bool.{beq}
use Rattle.std.specs.Prelude.{ℕ, Bool, true, not, ◌==◌, ◌||◌, ◌+◌, ◌-◌, ◌≡◌, ◌≤◌, if◌then◌else◌, List, [], ◌∷◌, map, length, drop, nat_lt, Option, None, Some, IfSome, option_and_then, position}
use Rattle.std.specs.Char.{is_ascii_digit}
use Rattle.std.specs.List.{list_all, prefix_len, slice_split}
use Rattle.std.specs.Option.{option_map, option_map_or, option_or}
use Rattle.std.specs.Str.Parse.{digits_value}
use Rattle.conda_base.specs.Numbers.{is_digits}
use Rattle.conda_base.specs.Reads.{Read, unless}
use Rattle.conda_base.specs.Signs.{dot, exclamation, plus}
use Rattle.conda_base.specs.Texts.{cut_first, is_byte, is_empty}
use Rattle.conda_version.specs.declared.error.VersionErr.{VersionErr}
use Rattle.conda_version.specs.declared.error.VersionErr.TheVariants.{BadVersion, Memory}
use Rattle.conda_version.specs.declared.error.VersionWhy.{VersionWhy}
use Rattle.conda_version.specs.declared.error.VersionWhy.TheVariants.{Empty, Char, Epoch, Local, Component, Numeral}
use Rattle.conda_version.specs.declared.run.Run.{Run}
use Rattle.conda_version.specs.Text.{plain, trimmed}
use Rattle.conda_version.specs.Versions.{Meaning, as_dot, begins_with_digit, is_letter, main_dots, run_of, with_zero}

-- ---- the parts of a plain text

-- the text before the first `!`, if there is one
abbrev pub epoch_part : List ℕ → Option (List ℕ)
epoch_part text = option_map (λ halves. halves.0) (cut_first exclamation text)

-- all that stands behind the epoch
abbrev pub behind_epoch : List ℕ → List ℕ
behind_epoch text = option_map_or (λ halves. halves.1) (cut_first exclamation text) text

-- the text before the first `+` there
abbrev pub main_part : List ℕ → List ℕ
main_part text = option_map_or (λ halves. halves.0) (cut_first plus (behind_epoch text)) (behind_epoch text)

-- the text behind it, if there is one
abbrev pub local_part : List ℕ → Option (List ℕ)
local_part text = option_map (λ halves. halves.1) (cut_first plus (behind_epoch text))

-- what `.` parts
abbrev pub dotted_parts : List ℕ → List (List ℕ)
dotted_parts dotted = slice_split (is_byte dot) dotted

-- ---- the runs of a component

-- a character before runs: it joins the first run where both are digits or neither is
abbrev pub onto_runs : ℕ → List (List ℕ) → List (List ℕ)
onto_runs b [] = (b ∷ []) ∷ []
onto_runs b ([] ∷ runs) = (b ∷ []) ∷ runs
onto_runs b ((c ∷ run) ∷ runs) = if beq (is_ascii_digit b) (is_ascii_digit c) then (b ∷ c ∷ run) ∷ runs else (b ∷ []) ∷ (c ∷ run) ∷ runs

-- neighbours stand in one run where both are digits or neither is
abbrev pub runs_of : List ℕ → List (List ℕ)
runs_of [] = []
runs_of (b ∷ bs) = onto_runs b (runs_of bs)

abbrev pub component_of : List ℕ → List Run
component_of piece = with_zero (begins_with_digit piece) (map run_of (runs_of piece))

abbrev pub components_of : List ℕ → List (List Run)
components_of dotted = map component_of (dotted_parts dotted)

-- ---- what a plain text means

-- the number before the `!`, which is 0 where there is none
abbrev pub epoch_of : List ℕ → ℕ
epoch_of text = option_map_or (digits_value 10) (epoch_part text) 0

abbrev pub local_of : List ℕ → List (List Run)
local_of text = option_map_or (λ local. components_of (map as_dot local)) (local_part text) []

abbrev pub plain_meaning : List ℕ → Meaning
plain_meaning text = record { epoch = epoch_of text; main = components_of (main_dots (main_part text)); local = local_of text }

-- ---- the faults of a plain text, each by its place

-- a character of a component, or one that parts two
abbrev pub is_part_char : ℕ → Bool
is_part_char b = is_ascii_digit b || is_letter b || b == dot

-- a digit, a small letter, or one of `.`, `_`, `+` and `!`
abbrev pub is_plain : ℕ → Bool
is_plain b = is_part_char b || b == plus || b == exclamation

abbrev pub empty_fault : List ℕ → Option ℕ
empty_fault text = if length text == 0 then Some 0 else None

abbrev pub char_fault : List ℕ → Option ℕ
char_fault text = position (λ b. not (is_plain b)) text

-- where the main part begins
abbrev pub main_start : List ℕ → ℕ
main_start text = length text - length (behind_epoch text)

-- the place of the first such character in a text that begins at a place
abbrev pub mark_from : ℕ → ℕ → List ℕ → Option ℕ
mark_from mark at text = option_map (λ p. at + p) (position (is_byte mark) text)

-- what is wrong at a first `!`: no number before it, or a second one behind it
abbrev pub fault_at_epoch : List ℕ × List ℕ → Option ℕ
fault_at_epoch halves = if is_digits halves.0 then mark_from exclamation (length halves.0 + 1) halves.1 else Some (length halves.0)

abbrev pub epoch_fault : List ℕ → Option ℕ
epoch_fault text = option_and_then fault_at_epoch (cut_first exclamation text)

-- what is wrong at a first `+` behind a place: nothing between, or a second one behind it
abbrev pub fault_at_local : ℕ → List ℕ × List ℕ → Option ℕ
fault_at_local start halves = if is_empty halves.0 then Some start else mark_from plus (start + length halves.0 + 1) halves.1

abbrev pub local_fault : List ℕ → Option ℕ
local_fault text = option_and_then (fault_at_local (main_start text)) (cut_first plus (behind_epoch text))

-- where the first empty one of these components would begin, of which the first stands at a place
abbrev pub empty_from : ℕ → List (List ℕ) → Option ℕ
empty_from at [] = None
empty_from at (piece ∷ more) = if length piece == 0 then Some at else empty_from (at + length piece + 1) more

-- the same of a local part at the end of a text
abbrev pub empty_local : List ℕ → List ℕ → Option ℕ
empty_local text local = empty_from (length text - length local) (dotted_parts (map as_dot local))

abbrev pub component_fault : List ℕ → Option ℕ
component_fault text =
    option_or (empty_from (main_start text) (dotted_parts (main_dots (main_part text))))
    (option_and_then (empty_local text) (local_part text))

-- the first place from which more than 38 digits stand in a row
abbrev pub numeral_from : ℕ → List ℕ → Option ℕ
numeral_from at [] = None
numeral_from at (b ∷ bs) = if nat_lt 38 (prefix_len is_ascii_digit (b ∷ bs)) then Some at else numeral_from (at + 1) bs

-- at no place more than 38 digits stand in a row
pub record HasShortRuns (text : List ℕ) : Type 0 where
  pub each : (i : ℕ) → prefix_len is_ascii_digit (drop i text) ≤ 38

-- how many characters the first run has
abbrev pub run_len : List ℕ → ℕ
run_len text = prefix_len (λ c. beq (begins_with_digit text) (is_ascii_digit c)) text

-- a run that has a number, where it begins with a digit
abbrev pub HasValue : List ℕ → Type 0
HasValue run = begins_with_digit run ≡ true → (list_all is_ascii_digit run ≡ true) × (length run ≤ 38)

abbrev pub because : VersionWhy → Option ℕ → Option (ℕ × VersionWhy)
because why place = option_map (λ at. (at, why)) place

-- what is wrong before the components are looked at
abbrev pub marks_fault : List ℕ → Option (ℕ × VersionWhy)
marks_fault text =
    option_or (because Empty (empty_fault text))
    (option_or (because Char (char_fault text))
    (option_or (because Epoch (epoch_fault text))
    (because Local (local_fault text))))

-- What is wrong with a plain text: the first of these that there is.
abbrev pub fault : List ℕ → Option (ℕ × VersionWhy)
fault text =
    option_or (marks_fault text)
    (option_or (because Component (component_fault text))
    (because Numeral (numeral_from 0 text)))

-- ---- texts

-- what a trimmed text means
abbrev pub meaning : List ℕ → Meaning
meaning text = plain_meaning (plain text)

-- what is wrong with a trimmed text, and where
abbrev pub offence : List ℕ → Option (ℕ × VersionWhy)
offence text = fault (plain text)

-- the trimmed text, or what is wrong with it
abbrev pub version_read : List ℕ → Read (List ℕ) (ℕ × VersionWhy)
version_read text = unless (offence (trimmed text)) (trimmed text)

-- the fault that an error names; want of memory names none
abbrev pub version_fault_of : VersionErr → Option (ℕ × VersionWhy)
version_fault_of (BadVersion at why) = Some (at, why)
version_fault_of Memory = None

-- an error names this fault, if it names any
abbrev pub IsCause : VersionErr → Option (ℕ × VersionWhy) → Type 0
IsCause error found = IfSome (version_fault_of error) (λ cause. found ≡ Some cause)
