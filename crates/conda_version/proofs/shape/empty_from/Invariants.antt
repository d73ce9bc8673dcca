use Rattle.std.proofs.Common.{◌≡◌, ◌+◌, length}
use Rattle.conda_version.specs.Grammar.{empty_from, dotted_parts}
use Rattle.conda_version.proofs.shape.empty_from.Given as goal

abbrev pub invariant-loop-end : goal.invariant-loop-end
invariant-loop-end l =
    (l.at + length l.left ≡ l.start + length l.dotted)
    × (empty_from l.at (dotted_parts l.left) ≡ empty_from l.start (dotted_parts l.dotted))

abbrev pub decreases-loop-end : goal.decreases-loop-end
decreases-loop-end l = length l.left
