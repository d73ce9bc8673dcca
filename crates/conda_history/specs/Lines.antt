-- What a line of a history says, as a function: the line between its blanks, then by its first characters.
use Rattle.std.specs.Prelude.{ℕ, Bool, true, ◌||◌, ◌==◌, if◌then◌else◌, List, [], ◌∷◌, reverse, Option, Some, None, option_map, option_and_then, unwrap_or, is_some}
use Rattle.std.specs.Str.{is_utf8}
use Rattle.conda_base.specs.Signs.{carriage_return, colon, dash, equals, greater, hash, less, plus, space}
use Rattle.conda_base.specs.Texts.{cut_last}
use Rattle.conda_path.specs.Dists.{is_dist}
use Rattle.conda_path.specs.Files.{cut_ending}
use Rattle.conda_history.specs.declared.line.Line.{Line}
use Rattle.conda_history.specs.declared.line.Line.TheVariants.{Nothing, Header, Removed, Added, Plain}
use Rattle.conda_history.specs.Stamps.{stamp_of}

-- ---- a text without what stands at its ends

-- a space, or this other character
abbrev pub is_end : ℕ → ℕ → Bool
is_end also b = b == space || b == also

abbrev pub without_front : ℕ → List ℕ → List ℕ
without_front also [] = []
without_front also (b ∷ rest) = if is_end also b then without_front also rest else b ∷ rest

abbrev pub without_back : ℕ → List ℕ → List ℕ
without_back also text = reverse (without_front also (reverse text))

abbrev pub without_ends : ℕ → List ℕ → List ℕ
without_ends also text = without_back also (without_front also text)

-- ---- a character at an end

-- what stands behind this character at the front
abbrev pub behind_one : ℕ → List ℕ → Option (List ℕ)
behind_one mark [] = None
behind_one mark (b ∷ rest) = if b == mark then Some rest else None

-- what stands before this character at the end
abbrev pub before_one : ℕ → List ℕ → Option (List ℕ)
before_one mark text = option_map reverse (behind_one mark (reverse text))

-- ---- a header line

-- what stands behind the mark `==>` at the front
abbrev pub behind_mark : List ℕ → Option (List ℕ)
behind_mark text =
    option_and_then (behind_one greater) (option_and_then (behind_one equals) (behind_one equals text))

-- what stands before the mark `<==` at the end
abbrev pub before_mark : List ℕ → Option (List ℕ)
before_mark text =
    option_and_then (before_one less) (option_and_then (before_one equals) (before_one equals text))

-- what stands between the two marks
abbrev pub middle_of : List ℕ → Option (List ℕ)
middle_of text = option_and_then before_mark (behind_mark text)

-- ---- a line that names a dist

-- what stands behind the last colon, if another one stands before it
abbrev pub behind_colons : List ℕ → Option (List ℕ × List ℕ) → List ℕ
behind_colons text None = text
behind_colons text (Some halves) = if is_some (before_one colon halves.0) then halves.1 else text

-- what stands behind the channel and its `::`
abbrev pub file_of : List ℕ → List ℕ
file_of text = behind_colons text (cut_last colon text)

-- the part of a text behind the sign that is to be the dist: without the ending of a package file too
abbrev pub dist_part : List ℕ → List ℕ
dist_part text = unwrap_or (cut_ending (file_of text)) (file_of text)

-- the dist that a text behind the sign names
abbrev pub dist_of : List ℕ → Option (List ℕ)
dist_of text = if is_dist (dist_part text) then Some (dist_part text) else None

-- an empty line, or a comment
abbrev pub says_nothing : List ℕ → Bool
says_nothing [] = true
says_nothing (b ∷ rest) = b == hash

-- what a line with something in it says that is neither a comment nor a header line
abbrev pub entry_of : List ℕ → Option Line
entry_of [] = None
entry_of (b ∷ rest) =
    if b == dash then option_map Removed (dist_of rest)
    else if b == plus then option_map Added (dist_of rest)
    else option_map Plain (dist_of (b ∷ rest))

-- what a line says that is no header line
abbrev pub named_of : List ℕ → Option Line
named_of text = if says_nothing text then Some Nothing else entry_of text

-- what a header line says, by what stands between its marks
abbrev pub header_of : List ℕ → Option Line
header_of middle = option_map Header (stamp_of (without_ends space middle))

abbrev pub said_with : List ℕ → Option (List ℕ) → Option Line
said_with text None = named_of text
said_with text (Some middle) = header_of middle

-- what a line between its blanks says
abbrev pub said_of : List ℕ → Option Line
said_of text = said_with text (middle_of text)

-- what a line says, which is given without its newline
unfoldable pub line_of : List ℕ → Option Line
line_of raw = if is_utf8 raw then said_of (without_ends carriage_return raw) else None
