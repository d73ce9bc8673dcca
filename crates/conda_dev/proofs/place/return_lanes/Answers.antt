use Rattle.std.proofs.Common.{rules}
use Rattle.conda_dev.proofs.PlaceLemmas.{apart}
use Rattle.conda_dev.proofs.place.return_lanes.Goals as goal

pub returns-in-Some-clause-others : goal.returns-in-Some-clause-others
returns-in-Some-clause-others c = λ other ne. ((c.get_mut.follows.holds _).3 (search rules)).2 other (apart c.args.prefix.now other ne)
