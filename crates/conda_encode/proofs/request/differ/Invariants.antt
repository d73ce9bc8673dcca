use Rattle.std.proofs.Common.{◌↔◌, length}
use Rattle.conda_encode.proofs.Conditions.{Apart}
use Rattle.conda_encode.proofs.request.differ.Given as goal

abbrev pub invariant-loop-pool : goal.invariant-loop-pool
invariant-loop-pool l = Apart l.pools ↔ Apart l.left

abbrev pub decreases-loop-pool : goal.decreases-loop-pool
decreases-loop-pool l = length l.left
