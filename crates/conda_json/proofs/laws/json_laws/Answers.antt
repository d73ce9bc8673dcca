use Rattle.conda_json.proofs.JsonLemmas.{json_of-ascends, object_read-ascends}
use Rattle.conda_json.proofs.laws.json_laws.Goals as goal

pub returns-clause-value : goal.returns-clause-value
returns-clause-value c = json_of-ascends

pub returns-clause-object : goal.returns-clause-object
returns-clause-object c = object_read-ascends
