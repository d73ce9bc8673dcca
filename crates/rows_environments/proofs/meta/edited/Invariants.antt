use Rattle.std.proofs.Common.{length}
use Rattle.rows_environments.proofs.meta.edited.Given as goal

abbrev pub decreases-loop-left : goal.decreases-loop-left
decreases-loop-left l = length l.left
