use Rattle.std.proofs.Common.{◌≡◌, drop}
use Rattle.conda_refute.specs.Left.{left_in}
use Rattle.conda_refute.specs.Refutation.{not_false}
use Rattle.conda_refute.proofs.Hints.{left_after}
use Rattle.conda_refute.proofs.checking.left_of.Given as goal

abbrev pub invariant-loop-literal : goal.invariant-loop-literal
invariant-loop-literal l = left_after l.left (not_false l.falses (drop l.literal-index l.clause)) ≡ left_in (not_false l.falses l.clause)
