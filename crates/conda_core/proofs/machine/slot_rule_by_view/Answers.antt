use Rattle.conda_core.proofs.ViewLemmas.{by_view}
use Rattle.conda_core.proofs.machine.slot_rule_by_view.Goals as goal

pub returns : goal.returns
returns c = by_view
