use Rattle.conda_history.proofs.StampLemmas.{exists_same}
use Rattle.conda_history.proofs.stamp.exists.Goals as goal

pub returns : goal.returns
returns c = exists_same c.args.stamp c.requires c.is_moment.result c.is_moment.ensures.0 c.is_moment.ensures.1
