use Rattle.conda_meta.specs.Reading.{linked_read}
use Rattle.conda_meta.proofs.LoopLemmas.{IsReadTo}
use Rattle.conda_meta.proofs.revision.read_all.Given as goal

abbrev pub invariant-loop-element : goal.invariant-loop-element
invariant-loop-element l = IsReadTo linked_read l.linked l.element-index l.elements
