use Rattle.std.proofs.lemmas.Result.{IfOk-weaker}
use Rattle.conda_sat.proofs.InputLemmas.{all_of_itself}
use Rattle.conda_sat.proofs.trim.trimmed.Goals as goal

pub returns-in-Err-clause-inputs : goal.returns-in-Err-clause-inputs
returns-in-Err-clause-inputs c = IfOk-weaker c.copy.result _ _ (λ v h. rw h (all_of_itself c.args.log.now.inputs)) c.copy.ensures
