use Rattle.conda_index.proofs.ReachLemmas.{Walked}
use Rattle.conda_index.proofs.index.Index.reached.Given as goal

abbrev pub invariant-loop-at : goal.invariant-loop-at
invariant-loop-at l = Walked l.self l.asked l.names.keys l.at
