use Rattle.conda_refute.proofs.Law.{none_left}
use Rattle.conda_refute.proofs.checking.no_assignment_is_left.Goals as goal

pub returns : goal.returns
returns c = none_left c.args.log.now
