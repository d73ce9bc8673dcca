use Rattle.conda_sources.proofs.CommandLemmas.{given_all}
use Rattle.conda_sources.proofs.laws.virtual_laws.Goals as goal

pub returns : goal.returns
returns c = λ words command read. given_all words command ((c.words_laws.ensures.meaning words command).0 read)
