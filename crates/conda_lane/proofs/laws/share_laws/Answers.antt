use Rattle.conda_lane.proofs.ShareLemmas.{shares_between}
use Rattle.conda_lane.proofs.laws.share_laws.Goals as goal

pub returns : goal.returns
returns c = shares_between
