-- What the errors say.
use Rattle.std.specs.Prelude.{ℕ, List, length, map, Option, None, Some, unwrap_or, slice_get}
use Rattle.std.specs.Char.{to_ascii_lowercase}
use Rattle.std.specs.Option.{option_map}
use Rattle.conda_clause.specs.declared.error.SpecErr.{SpecErr}
use Rattle.conda_clause.specs.declared.error.SpecErr.TheVariants.{BadSpec, Memory}
use Rattle.conda_clause.specs.declared.error.SpecWhy.{SpecWhy}
use Rattle.conda_base.specs.Reads.{Read, unless}
use Rattle.conda_version.specs.Text.{trimmed}
use Rattle.conda_clause.specs.Clause.{clause_fault}
use Rattle.conda_clause.specs.Kept.{clause_text, places}

-- the fault that an error names
abbrev pub spec_fault_of : SpecErr → Option (ℕ × SpecWhy)
spec_fault_of (BadSpec at why) = Some (at, why)
spec_fault_of Memory = None

-- where the i-th character that stays stood in the text; the end of the text behind the last one
abbrev pub place_of : List ℕ → ℕ → ℕ
place_of text i = unwrap_or (slice_get (places text) i) (length text)

-- a fault of the characters that stay, by its place in the text
abbrev pub placed : List ℕ → Option (ℕ × SpecWhy) → Option (ℕ × SpecWhy)
placed text found = option_map (λ f. (place_of text f.0, f.1)) found

-- the clause of characters of which none is dropped
abbrev pub kept_read : List ℕ → Read (List ℕ) (ℕ × SpecWhy)
kept_read kept = unless (clause_fault (map to_ascii_lowercase kept)) (map to_ascii_lowercase kept)

-- the clause that a text writes
abbrev pub clause_read : List ℕ → Read (List ℕ) (ℕ × SpecWhy)
clause_read text =
    let kept : List ℕ = clause_text (trimmed text) in
    unless (placed (trimmed text) (clause_fault kept)) kept
