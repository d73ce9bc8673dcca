use Rattle.conda_meta.specs.Reading.{unlinked_dist}
use Rattle.conda_meta.proofs.LoopLemmas.{IsReadTo}
use Rattle.conda_meta.proofs.revision.read_dists.Given as goal

abbrev pub invariant-loop-element : goal.invariant-loop-element
invariant-loop-element l = IsReadTo unlinked_dist l.dists l.element-index l.elements
