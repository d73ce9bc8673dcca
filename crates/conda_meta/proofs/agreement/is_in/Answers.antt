use Rattle.std.proofs.Common.{◌∙◌}
use Rattle.conda_history.proofs.ChangeLemmas.{holds_is}
use Rattle.conda_meta.proofs.agreement.is_in.Goals as goal

pub returns : goal.returns
returns c = c.contains.ensures ∙ holds_is c.args.dist.now c.args.set.now.keys
