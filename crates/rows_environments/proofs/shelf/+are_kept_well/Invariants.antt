use Rattle.std.proofs.Common.{length}
use Rattle.rows_environments.proofs.shelf.+are_kept_well.Given as goal

abbrev pub decreases-are_kept_well : goal.decreases-are_kept_well
decreases-are_kept_well l = length l.goods.now
