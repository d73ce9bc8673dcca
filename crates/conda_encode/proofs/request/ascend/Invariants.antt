use Rattle.std.proofs.Common.{length}
use Rattle.conda_base.specs.Texts.{Ascending}
use Rattle.conda_encode.proofs.Conditions.{names_of}
use Rattle.conda_encode.proofs.request.ascend.Given as goal

abbrev pub invariant-loop-pool : goal.invariant-loop-pool
invariant-loop-pool l = Ascending (names_of l.left) → Ascending (names_of l.pools)

abbrev pub decreases-loop-pool : goal.decreases-loop-pool
decreases-loop-pool l = length l.left
