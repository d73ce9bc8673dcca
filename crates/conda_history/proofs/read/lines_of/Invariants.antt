use Rattle.std.proofs.Common.{◌≡◌, ◌+◌, ◌≤◌, length}
use Rattle.conda_history.specs.Reading.{lines_read, text_read}
use Rattle.conda_history.specs.Says.{lines_of}
use Rattle.conda_history.proofs.read.lines_of.Given as goal

-- the answer for what is left is the answer for all
abbrev pub invariant-loop-line : goal.invariant-loop-line
invariant-loop-line l = record {
  answer : lines_read l.number l.reading (lines_of l.rest) ≡ text_read l.bytes;
  count : l.number + length l.rest ≤ length l.bytes + 1;
}

abbrev pub decreases-loop-line : goal.decreases-loop-line
decreases-loop-line l = length l.rest
