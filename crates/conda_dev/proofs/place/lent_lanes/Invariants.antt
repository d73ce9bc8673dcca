use Rattle.conda_dev.proofs.GatherLemmas.{SoFar}
use Rattle.conda_dev.proofs.place.lent_lanes.Given as goal

abbrev pub invariant-loop-number : goal.invariant-loop-number
invariant-loop-number l = SoFar l.number l.lanes l.from l.made.items
