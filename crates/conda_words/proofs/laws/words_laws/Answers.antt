use Rattle.conda_base.specs.Signs.{equals}
use Rattle.conda_words.proofs.LawLemmas.{fault_of, fault_read_at, meaning_of, read_meaning}
use Rattle.conda_words.proofs.laws.words_laws.Goals as goal

pub returns-clause-meaning : goal.returns-clause-meaning
returns-clause-meaning c words command = (
  meaning_of (λ text before behind e. ((c.cut_laws.ensures.first equals text before behind).0 e).0) words command,
  read_meaning words command,
)

pub returns-clause-prefix : goal.returns-clause-prefix
returns-clause-prefix c words command h =
    (meaning_of (λ text before behind e. ((c.cut_laws.ensures.first equals text before behind).0 e).0) words command h).command.prefix

pub returns-clause-fault : goal.returns-clause-fault
returns-clause-fault c words at why = (
  fault_of (λ text before behind e. ((c.cut_laws.ensures.first equals text before behind).0 e).0) words at why,
  fault_read_at words at why,
)
