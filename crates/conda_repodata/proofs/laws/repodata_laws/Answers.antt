use Rattle.conda_repodata.proofs.EntryLemmas.{RecordLaw}
use Rattle.conda_repodata.proofs.RuleLemmas.{bytes_law, repodata_law}
use Rattle.conda_repodata.proofs.laws.repodata_laws.Goals as goal

read : goal.After-record_laws → RecordLaw
read c = λ value file channel subdir pkg e. (c.record_laws.ensures.read value file channel subdir pkg).0 e

pub returns-clause-bytes : goal.returns-clause-bytes
returns-clause-bytes c = bytes_law (read c) c.json_laws.ensures.object

pub returns-clause-object : goal.returns-clause-object
returns-clause-object c = λ text channel subdir made ascend. repodata_law (read c) channel subdir text ascend made
