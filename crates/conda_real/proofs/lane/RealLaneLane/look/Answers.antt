use Rattle.conda_real.proofs.CauseLemmas.{cause}
use Rattle.conda_real.proofs.lane.RealLaneLane.look.Goals as goal

pub returns-in-Ok-clause-cause : goal.returns-in-Ok-clause-cause
returns-in-Ok-clause-cause g c = cause c.seen_at.result _ _ c.seen_at.ensures
