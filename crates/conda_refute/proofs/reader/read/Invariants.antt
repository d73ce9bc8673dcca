use Rattle.std.proofs.Common.{◌≡◌, ◌+◌, ◌≤◌, drop}
use Rattle.conda_refute.specs.Reader.{run, start}
use Rattle.conda_refute.proofs.reader.read.Given as goal

-- the answer for what is left is the answer for all
abbrev pub invariant-loop-byte : goal.invariant-loop-byte
invariant-loop-byte l = (run (drop l.byte-index l.text) l.reading ≡ run l.text start) × (l.reading.line ≤ l.byte-index + 1)
