use Rattle.std.proofs.Common.{◌≡◌, ℤ, take}
use Rattle.conda_refute.specs.Literals.{has}
use Rattle.conda_refute.proofs.checking.taken_as_false.Given as goal

abbrev pub invariant-loop-literal : goal.invariant-loop-literal
invariant-loop-literal l = (q : ℤ) → has l.falses q ≡ has (take l.literal-index l.clause) q
