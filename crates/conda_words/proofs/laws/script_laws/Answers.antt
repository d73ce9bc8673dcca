use Rattle.conda_base.specs.Signs.{equals}
use Rattle.conda_words.proofs.LineLemmas.{fault_of, fault_read_at, meaning_of, read_meaning}
use Rattle.conda_words.proofs.laws.script_laws.Goals as goal

pub returns-clause-meaning : goal.returns-clause-meaning
returns-clause-meaning c text lines = (
  meaning_of (λ text before behind e. ((c.cut_laws.ensures.first equals text before behind).0 e).0) text lines,
  read_meaning text lines,
)

pub returns-clause-fault : goal.returns-clause-fault
returns-clause-fault c text n why = (
  fault_of (λ text before behind e. ((c.cut_laws.ensures.first equals text before behind).0 e).0) text n why,
  fault_read_at text n why,
)
