use Rattle.std.proofs.Common.{length}
use Rattle.rows_environments.proofs.shelf.+fits.Given as goal

abbrev pub decreases-fits : goal.decreases-fits
decreases-fits l = length l.goods.now
