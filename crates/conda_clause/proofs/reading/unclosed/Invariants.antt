use Rattle.std.proofs.Common.{◌≡◌, ◌≤◌, ◌+◌, drop, length}
use Rattle.conda_clause.specs.Clause.{closers, unclosed}
use Rattle.conda_clause.proofs.reading.unclosed.Given as goal

abbrev pub invariant-loop-at : goal.invariant-loop-at
invariant-loop-at l =
    (l.closers + l.at ≤ length l.text) × (l.closers ≡ closers (drop l.at l.text)) × (l.found ≡ unclosed l.at (drop l.at l.text))
