use Rattle.std.proofs.Common.{◌≡◌, drop, neg_ℤ}
use Rattle.conda_refute.specs.Literals.{has}
use Rattle.conda_sat.proofs.denial.has_opposite.Given as goal

abbrev pub invariant-loop-other : goal.invariant-loop-other
invariant-loop-other l = has (drop l.other-index l.literals) (neg_ℤ l.literal) ≡ has l.literals (neg_ℤ l.literal)
