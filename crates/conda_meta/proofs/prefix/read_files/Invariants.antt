use Rattle.conda_meta.specs.Reading.{file_read}
use Rattle.conda_meta.proofs.LoopLemmas.{IsReadTo}
use Rattle.conda_meta.proofs.prefix.read_files.Given as goal

abbrev pub invariant-loop-element : goal.invariant-loop-element
invariant-loop-element l = IsReadTo file_read l.files.items l.element-index l.elements
