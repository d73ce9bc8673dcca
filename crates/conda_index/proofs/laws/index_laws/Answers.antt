use Rattle.conda_index.proofs.LawLemmas.{joins, plain_law, pool_law, splits}
use Rattle.conda_index.proofs.laws.index_laws.Goals as goal

pub returns-clause-first : goal.returns-clause-first
returns-clause-first c records name channel = (splits name channel records, joins name channel records)

pub returns-clause-pool : goal.returns-clause-pool
returns-clause-pool c = pool_law

pub returns-clause-plain : goal.returns-clause-plain
returns-clause-plain c = plain_law
