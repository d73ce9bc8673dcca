use Rattle.conda_meta.specs.Reading.{requested_spec}
use Rattle.conda_meta.proofs.LoopLemmas.{IsReadTo}
use Rattle.conda_meta.proofs.requested.read_all.Given as goal

abbrev pub invariant-loop-element : goal.invariant-loop-element
invariant-loop-element l = IsReadTo requested_spec l.specs l.element-index l.elements
