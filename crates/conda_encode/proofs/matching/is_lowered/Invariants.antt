use Rattle.std.proofs.Common.{◌≡◌, ◌↔◌, drop}
use Rattle.conda_encode.specs.Matching.{lowered}
use Rattle.conda_encode.proofs.matching.is_lowered.Given as goal

abbrev pub invariant-loop-at : goal.invariant-loop-at
invariant-loop-at l = (lowered l.left ≡ l.right) ↔ (lowered (drop l.at l.left) ≡ drop l.at l.right)
