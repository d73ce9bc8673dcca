use Rattle.std.proofs.Common.{length}
use Rattle.rows_environments.proofs.checks.+are_goods_of.Given as goal

abbrev pub decreases-are_goods_of : goal.decreases-are_goods_of
decreases-are_goods_of l = length l.changes.now
