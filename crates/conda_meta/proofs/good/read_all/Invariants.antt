use Rattle.conda_meta.specs.Reading.{good_read}
use Rattle.conda_meta.proofs.LoopLemmas.{IsReadTo}
use Rattle.conda_meta.proofs.good.read_all.Given as goal

abbrev pub invariant-loop-element : goal.invariant-loop-element
invariant-loop-element l = IsReadTo good_read l.goods.items l.element-index l.elements
