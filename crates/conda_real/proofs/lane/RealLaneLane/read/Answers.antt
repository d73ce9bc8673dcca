use Rattle.conda_real.proofs.CauseLemmas.{device_cause}
use Rattle.conda_real.proofs.lane.RealLaneLane.read.Goals as goal

pub returns-clause-cause : goal.returns-clause-cause
returns-clause-cause g c = device_cause c.node_at.result _ _ c.node_at.ensures.count
