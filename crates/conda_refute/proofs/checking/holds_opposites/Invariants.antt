use Rattle.std.proofs.Common.{◌≡◌, neg_ℤ, drop}
use Rattle.std.specs.List.{list_any}
use Rattle.conda_refute.specs.Literals.{has}
use Rattle.conda_refute.proofs.checking.holds_opposites.Given as goal

abbrev pub invariant-loop-literal : goal.invariant-loop-literal
invariant-loop-literal l = list_any (λ x. has l.falses (neg_ℤ x)) (drop l.literal-index l.clause) ≡ list_any (λ x. has l.falses (neg_ℤ x)) l.clause
