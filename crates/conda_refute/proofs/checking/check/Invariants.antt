use Rattle.std.proofs.Common.{◌≡◌, ◌+◌, take, drop}
use Rattle.conda_refute.specs.Refutation.{clauses_of, first_bad}
use Rattle.conda_refute.proofs.checking.check.Given as goal

abbrev pub invariant-loop-at : goal.invariant-loop-at
invariant-loop-at l = first_bad (clauses_of l.inputs (take l.at l.steps)) (l.at + 1) (drop l.at l.steps) ≡ first_bad l.inputs 1 l.steps
