use Rattle.conda_json.proofs.JsonLemmas.{json_of-read}
use Rattle.conda_json.proofs.text.compact.Goals as goal

pub returns-clause-reads_back : goal.returns-clause-reads_back
returns-clause-reads_back c = λ shallow. json_of-read _ _ c.in_ok-text.ensures.utf8 (c.in_ok-text.ensures.reads_back shallow)
