use Rattle.conda_link.proofs.RuleLemmas.{entry_law, file_law}
use Rattle.conda_link.proofs.laws.link_laws.Goals as goal

pub returns-clause-entry : goal.returns-clause-entry
returns-clause-entry c = entry_law c.cut_laws.ensures.last

pub returns-clause-file : goal.returns-clause-file
returns-clause-file c = file_law c.cut_laws.ensures.last
