-- The specifications that words are. Which texts are specifications is conda's match_spec.py; that a star in a name is taken by `search`
-- alone is this project's own.
use Rattle.std.specs.Prelude.{ℕ, ◌+◌, if◌then◌else◌, List, [], ◌∷◌, length, Option, None, Some, Ok, Err}
use Rattle.std.specs.List.{list_any}
use Rattle.std.specs.Option.{option_map_or}
use Rattle.conda_base.specs.Reads.{Read, ◌>>=◌}
use Rattle.conda_base.specs.Signs.{star}
use Rattle.conda_base.specs.Texts.{is_byte}
use Rattle.conda_clause.specs.declared.error.SpecWhy.{SpecWhy}
use Rattle.conda_clause.specs.declared.error.SpecWhy.TheVariants.{Glob}
use Rattle.conda_version.specs.Text.{trimmed}
use Rattle.conda_spec.specs.Cuts.{cut_colons}
use Rattle.conda_spec.specs.Parts.{Parts}
use Rattle.conda_spec.specs.Reading.{spec_read}
use Rattle.conda_requests.specs.declared.error.WordErr.{WordErr}
use Rattle.conda_requests.specs.declared.error.WordErr.TheVariants.{BadSpec, Memory}

-- a word that isn't taken: the word, where its fault stands, and what is wrong there
pub record WordFault : Type 0 where
  pub text : List ℕ
  pub at : ℕ
  pub why : SpecWhy

-- the fault of a word that an error names
abbrev pub word_fault_of : WordErr → Option WordFault
word_fault_of (BadSpec text at why) = Some (record { text = text; at = at; why = why })
word_fault_of Memory = None

-- the same, of the word's own reading
abbrev pub of_word : List ℕ → Read Parts (ℕ × SpecWhy) → Read Parts WordFault
of_word word (Ok spec) = Ok spec
of_word word (Err fault) = Err (record { text = word; at = fault.0; why = fault.1 })

-- the specification that a word is, without the spaces at its ends
abbrev pub word_read : List ℕ → Read Parts WordFault
word_read word = of_word word (spec_read (trimmed word))

-- where a specification has its name: behind the first `::`, if it has a channel in front
abbrev pub name_place : List ℕ → ℕ
name_place text = option_map_or (λ cut. length cut.0 + 2) (cut_colons text) 0

-- the specification, unless its name, which has this place, holds a star
abbrev pub unless_starred : List ℕ → Parts → Read Parts WordFault
unless_starred word spec =
    if list_any (is_byte star) spec.name then Err (record { text = word; at = name_place (trimmed word); why = Glob }) else Ok spec

-- the specification that a word is where no star is taken
abbrev pub plain_read : List ℕ → Read Parts WordFault
plain_read word = word_read word >>= unless_starred word

-- those of all words, or the first word's fault that has one
abbrev pub plain_words_read : List (List ℕ) → Read (List Parts) WordFault
plain_words_read [] = Ok []
plain_words_read (word ∷ words) = do
  spec ← plain_read word
  specs ← plain_words_read words
  Ok (spec ∷ specs)
