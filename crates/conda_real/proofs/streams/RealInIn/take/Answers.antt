use Rattle.conda_real.proofs.CauseLemmas.{device_cause}
use Rattle.conda_real.proofs.streams.RealInIn.take.Goals as goal

pub returns-clause-cause : goal.returns-clause-cause
returns-clause-cause g c = device_cause c.read_some.result _ _ c.read_some.ensures.count
