use Rattle.std.proofs.Common.{length}
use Rattle.rows_environments.proofs.checks.+can_move_back.Given as goal

abbrev pub decreases-can_move_back : goal.decreases-can_move_back
decreases-can_move_back l = length l.changes.now
