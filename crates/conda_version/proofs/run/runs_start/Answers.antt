use Rattle.conda_version.proofs.StartLemmas.{runs_begin_is}
use Rattle.conda_version.proofs.run.runs_start.Goals as goal

pub loop-at-init : goal.loop-at-init
loop-at-init c = runs_begin_is c.args.xs.now c.args.ys.now
