use Rattle.std.proofs.Common.{◌≡◌, drop}
use Rattle.conda_refute.specs.Literals.{has}
use Rattle.conda_sat.proofs.denial.has_literal.Given as goal

abbrev pub invariant-loop-other : goal.invariant-loop-other
invariant-loop-other l = has (drop l.other-index l.literals) l.literal ≡ has l.literals l.literal
