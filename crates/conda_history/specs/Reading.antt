-- The reader as a function: the lines in their order, and the blocks so far.
use Rattle.std.specs.Prelude.{ℕ, ◌+◌, Bool, true, false, ◌&&◌, not, if◌then◌else◌, List, [], ◌∷◌, ◌++◌, Option, Some, None, option_and_then, Ok, Err}
use Rattle.std.specs.Ordering.{nat_cmp}
use Rattle.std.specs.Cmp.Lexicographic.{slice_cmp}
use Rattle.std.specs.BTreeMap.{is_at}
use Rattle.std.specs.BTreeSet.{insert_key}
use Rattle.std.specs.Set.{remove_key}
use Rattle.conda_base.specs.Reads.{Read, ◌>>=◌}
use Rattle.conda_base.specs.Texts.{is_empty}
use Rattle.conda_history.specs.declared.line.Line.{Line}
use Rattle.conda_history.specs.declared.line.Line.TheVariants.{Nothing, Header, Removed, Added, Plain}
use Rattle.conda_history.specs.declared.revision.Block.{Block}
use Rattle.conda_history.specs.declared.revision.History.{History}
use Rattle.conda_history.specs.declared.read.Open.{Open}
use Rattle.conda_history.specs.declared.read.Reading.{Reading}
use Rattle.conda_history.specs.declared.stamp.Stamp.{Stamp}
use Rattle.conda_history.specs.Lines.{line_of}
use Rattle.conda_history.specs.Names.{Names}
use Rattle.conda_history.specs.Says.{lines_of}

-- an ascending list with a dist put in, at its place unless it's there
abbrev pub put_in : List ℕ → List (List ℕ) → List (List ℕ)
put_in dist set = insert_key (slice_cmp nat_cmp) set dist

-- an ascending list with a dist taken out
abbrev pub taken_out : List ℕ → List (List ℕ) → List (List ℕ)
taken_out dist set = remove_key (is_at (slice_cmp nat_cmp dist)) set

abbrev pub no_names : Names
no_names = record { removed = []; added = []; plain = []; signed = false }

-- the names with one more line
abbrev pub named : Names → Line → Names
named n (Removed dist) =
    record { removed = put_in dist n.removed; added = taken_out dist n.added; plain = n.plain; signed = true }
named n (Added dist) =
    record { removed = taken_out dist n.removed; added = put_in dist n.added; plain = n.plain; signed = true }
named n (Plain dist) = record n { plain = put_in dist n.plain }
named n _ = n

-- the lines are the whole set: none has a sign, and one names a dist
abbrev pub are_whole : Names → Bool
are_whole n = not n.signed && not (is_empty n.plain)

-- the block of a stamp and these names
abbrev pub block_of : Stamp → Names → Block
block_of stamp n =
    if are_whole n then record { stamp = stamp; removed = []; added = n.plain; whole = true }
    else record { stamp = stamp; removed = n.removed; added = n.added; whole = false }

abbrev pub start : Reading
start = record { done = []; current = None }

-- the blocks with the open one at their end
abbrev pub closed_with : List Block → Option Open → List Block
closed_with done None = done
closed_with done (Some o) = done ++ block_of o.stamp o.names ∷ []

abbrev pub closed : Reading → List Block
closed r = closed_with r.done r.current

-- a block with one more line
abbrev pub open_with : Open → Line → Open
open_with o line = record { stamp = o.stamp; names = named o.names line }

abbrev pub with_named : List Block → Line → Option Open → Option Reading
with_named done line None = None
with_named done line (Some o) = Some (record { done = done; current = Some (open_with o line) })

-- the blocks with a new one, which is open
abbrev pub begun : Reading → Stamp → Reading
begun r stamp = record { done = closed r; current = Some (record { stamp = stamp; names = no_names }) }

-- the blocks with what one more line says; a dist is named only behind a header
abbrev pub step : Reading → Line → Option Reading
step r Nothing = Some r
step r (Header stamp) = Some (begun r stamp)
step r (Removed dist) = with_named r.done (Removed dist) r.current
step r (Added dist) = with_named r.done (Added dist) r.current
step r (Plain dist) = with_named r.done (Plain dist) r.current

-- the value, or the number of a line that has none
abbrev pub or_line : ℕ → Option Reading → Read Reading ℕ
or_line number None = Err number
or_line number (Some r) = Ok r

-- the blocks with one more line of this number
abbrev pub line_read : ℕ → Reading → List ℕ → Read Reading ℕ
line_read number r raw = or_line number (option_and_then (step r) (line_of raw))

-- the blocks with lines of which the first has this number
abbrev pub lines_read : ℕ → Reading → List (List ℕ) → Read Reading ℕ
lines_read number r [] = Ok r
lines_read number r (raw ∷ raws) = line_read number r raw >>= (λ next. lines_read (number + 1) next raws)

-- what the lines of a text make of no blocks
abbrev pub text_read : List ℕ → Read Reading ℕ
text_read bytes = lines_read 1 start (lines_of bytes)

-- the blocks of bytes, or the number of the first line that is none of a history
unfoldable pub blocks_read : List ℕ → Read (List Block) ℕ
blocks_read bytes = text_read bytes >>= (λ r. Ok (closed r))

-- the same as a history
abbrev pub history_read : List ℕ → Read History ℕ
history_read bytes = blocks_read bytes >>= (λ blocks. Ok (record { blocks = blocks }))
