use Rattle.conda_dev.proofs.GatherLemmas.{gathered_all}
use Rattle.conda_dev.proofs.place.whole_tree.Goals as goal

pub returns : goal.returns
returns c = gathered_all c.args.lanes.now c.in_ok-made.made c.in_ok-made.ensures
