use Rattle.std.proofs.Common.{sym, ◌∙◌}
use Rattle.conda_sat.proofs.SidesLemmas.{opposites_deny}
use Rattle.conda_sat.proofs.solver.seen.Goals as goal

pub returns-in-Opposites-clause-right : goal.returns-in-Opposites-clause-right
returns-in-Opposites-clause-right c =
    opposites_deny c.args.ledger.now.inputs c.args.assumed.now (sym c.holds_opposites.ensures ∙ c.if-holds_opposites.true)
