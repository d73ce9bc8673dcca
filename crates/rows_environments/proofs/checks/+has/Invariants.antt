use Rattle.std.proofs.Common.{length}
use Rattle.rows_environments.proofs.checks.+has.Given as goal

abbrev pub decreases-has : goal.decreases-has
decreases-has l = length l.goods.now
