use Rattle.std.proofs.Common.{length}
use Rattle.rows_environments.proofs.checks.+are_moved_out.Given as goal

abbrev pub decreases-are_moved_out : goal.decreases-are_moved_out
decreases-are_moved_out l = length l.changes.now
