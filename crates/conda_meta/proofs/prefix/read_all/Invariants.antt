use Rattle.conda_meta.proofs.LoopLemmas.{ArePlacedTo}
use Rattle.conda_meta.proofs.prefix.read_all.Given as goal

abbrev pub invariant-loop-at : goal.invariant-loop-at
invariant-loop-at l = ArePlacedTo l.goods.items l.at l.files l.elements
