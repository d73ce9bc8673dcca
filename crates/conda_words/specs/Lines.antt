-- The lines of a script as a grammar: what they mean, and the first bad one. This project's own.
use Rattle.std.specs.Prelude.{◌≡◌, ◌<◌, ◌≤◌, ℕ, ◌+◌, ◌⊎◌, true, false, List, [], ◌∷◌, ◌++◌, length, take, None, Some, slice_get}
use Rattle.std.specs.List.{flat_map, list_any}
use Rattle.conda_base.specs.Signs.{space}
use Rattle.conda_base.specs.Texts.{is_empty}
use Rattle.conda_words.specs.Grammar.{HasCommandFault, IsCommand}
use Rattle.conda_words.specs.Says.{are_apart, different}
use Rattle.conda_words.specs.Scripts.{is_passed, lines_of, parted}
use Rattle.conda_words.specs.Values.{number_in}
use Rattle.conda_words.specs.declared.command.Line.{Line}
use Rattle.conda_words.specs.declared.error.Why.{Why}
use Rattle.conda_words.specs.declared.error.Why.TheVariants as whys

-- ---- the meaning

-- A text is the line of this number: a session, and words that are a command, with a space between each two; no word is empty.
pub record IsLine (n : ℕ) (text : List ℕ) (line : Line) : Type 0 where
  pub session : List ℕ
  pub words : List (List ℕ)
  pub fields : parted space text ≡ session ∷ words
  pub number : line.number ≡ n
  pub session_is : number_in 0 15 session ≡ Some line.session
  pub filled : list_any is_empty words ≡ false
  pub command : IsCommand true words line.command

-- Physical lines, of which the first has this number, are these lines, in order; the empty ones and those that begin with `#` are
-- passed over.
pub data AreLines : ℕ → List (List ℕ) → List Line → Type 0 where
  end : (n : ℕ) → AreLines n [] []
  passed : (n : ℕ) (text : List ℕ) (texts : List (List ℕ)) (lines : List Line) →
      is_passed text ≡ true → AreLines (n + 1) texts lines →
      AreLines n (text ∷ texts) lines
  line : (n : ℕ) (text : List ℕ) (line : Line) (texts : List (List ℕ)) (lines : List Line) →
      is_passed text ≡ false → IsLine n text line → AreLines (n + 1) texts lines →
      AreLines n (text ∷ texts) (line ∷ lines)

-- all prefixes of lines, in order
abbrev pub prefixes_of : List Line → List (List ℕ)
prefixes_of lines = flat_map (λ line. line.command.prefixes) lines

-- 10,000 physical lines at most are these lines, with 64 different prefixes at most
pub record AreTaken (texts : List (List ℕ)) (lines : List Line) : Type 0 where
  pub short : length texts ≤ 10000
  pub are : AreLines 1 texts lines
  pub few : length (different (prefixes_of lines)) ≤ 64

-- A script means these lines: its physical lines are them, and no prefix lies inside another.
pub record MeansLines (text : List ℕ) (lines : List Line) : Type 0 where
  pub taken : AreTaken (lines_of text) lines
  pub apart : are_apart (different (prefixes_of lines)) ≡ true

-- ---- the first bad line

-- Words of a line have a fault for a reason, where these prefixes are known of the lines before: their own, or an empty word, which
-- is unknown; of two the one further left, and at one word the empty one.
pub data IsBadFor (known words : List (List ℕ)) : Why → Type 0 where
  own : (at : ℕ) (why : Why) → HasCommandFault true known words at why → list_any is_empty (take (at + 1) words) ≡ false
      → IsBadFor known words why
  empty : (at : ℕ) → slice_get words at ≡ Some [] → ((n : ℕ) (why : Why) → HasCommandFault true known words n why → at ≤ n)
      → IsBadFor known words whys.Unknown

-- a physical line of this number is bad for a reason
pub data IsBadLine (n : ℕ) (known : List (List ℕ)) (text : List ℕ) : Why → Type 0 where
  late : 10000 < n → IsBadLine n known text whys.Limit
  unnumbered : (session : List ℕ) (words : List (List ℕ)) → n ≤ 10000 → is_passed text ≡ false → parted space text ≡ session ∷ words
      → number_in 0 15 session ≡ None → IsBadLine n known text whys.Number
  bad : (session : List ℕ) (words : List (List ℕ)) (number : ℕ) (why : Why) → n ≤ 10000 → is_passed text ≡ false
      → parted space text ≡ session ∷ words → number_in 0 15 session ≡ Some number → IsBadFor known words why → IsBadLine n known text why

-- the physical lines before the one of this number are taken, and it is bad behind them
pub record IsBadAt (texts : List (List ℕ)) (n : ℕ) (why : Why) : Type 0 where
  pub front : List (List ℕ)
  pub text : List ℕ
  pub behind : List (List ℕ)
  pub lines : List Line
  pub split : texts ≡ front ++ text ∷ behind
  pub taken : AreTaken front lines
  pub place : n ≡ 1 + length front
  pub wrong : IsBadLine n (different (prefixes_of lines)) text why

-- all are taken, and it is the first line of which a prefix lies inside or round a different earlier one
pub record IsNestedLine (texts : List (List ℕ)) (n : ℕ) (why : Why) : Type 0 where
  pub front : List Line
  pub line : Line
  pub behind : List Line
  pub taken : AreTaken texts (front ++ line ∷ behind)
  pub apart : are_apart (different (prefixes_of front)) ≡ true
  pub nested : are_apart (different (prefixes_of (front ++ line ∷ []))) ≡ false
  pub place : n ≡ line.number
  pub cause : why ≡ whys.Nested

abbrev pub HasLineFault : List ℕ → ℕ → Why → Type 0
HasLineFault text n why = IsBadAt (lines_of text) n why ⊎ IsNestedLine (lines_of text) n why
