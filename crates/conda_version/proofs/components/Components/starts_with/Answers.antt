use Rattle.conda_version.proofs.StartLemmas.{components_begin_is}
use Rattle.conda_version.proofs.components.Components.starts_with.Goals as goal

pub loop-at-init : goal.loop-at-init
loop-at-init c = components_begin_is c.args.self.now c.args.other.now
