use Rattle.std.proofs.Common.{length}
use Rattle.conda_goods.proofs.conflict.+meets_other.Given as goal

-- proposed from what the function passes where it calls itself
abbrev pub decreases-meets_other : goal.decreases-meets_other
decreases-meets_other l = length l.path.now
