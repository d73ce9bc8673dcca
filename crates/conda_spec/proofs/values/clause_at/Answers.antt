use Rattle.conda_spec.proofs.ValueLemmas.{clause_is}
use Rattle.conda_spec.proofs.values.clause_at.Goals as goal

pub returns-in-Ok-clause-good : goal.returns-in-Ok-clause-good
returns-in-Ok-clause-good c = clause_is c.in-Ok.clause c.args.text.now c.in-Ok.ensures
