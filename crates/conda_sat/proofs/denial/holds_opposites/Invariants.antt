use Rattle.std.proofs.Common.{◌≡◌, drop, neg_ℤ}
use Rattle.std.specs.List.{list_any}
use Rattle.conda_refute.specs.Literals.{has}
use Rattle.conda_sat.proofs.denial.holds_opposites.Given as goal

abbrev pub invariant-loop-literal : goal.invariant-loop-literal
invariant-loop-literal l = list_any (λ x. has l.literals (neg_ℤ x)) (drop l.literal-index l.literals) ≡ list_any (λ x. has l.literals (neg_ℤ x)) l.literals
