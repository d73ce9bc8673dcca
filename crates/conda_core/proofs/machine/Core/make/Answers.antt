use Rattle.std.proofs.Common.{sym, subst}
use Rattle.conda_core.specs.Rules.{Rules}
use Rattle.conda_core.proofs.RuleLemmas.{start_rules}
use Rattle.conda_core.proofs.machine.Core.make.Goals as goal

pub returns-in-Ok-clause-rules : goal.returns-in-Ok-clause-rules
returns-in-Ok-clause-rules c = subst Rules (sym c.in-Ok.ensures) (start_rules c.args.ready.now c.args.seats c.args.envs)
