use Rattle.conda_refute.proofs.Law.{steps_true}
use Rattle.conda_refute.proofs.checking.every_step_holds.Goals as goal

pub returns : goal.returns
returns c = λ each v every. steps_true v c.args.log.now.inputs c.args.log.now.steps every each
