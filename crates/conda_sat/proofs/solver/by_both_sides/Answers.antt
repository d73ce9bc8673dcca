use Rattle.std.proofs.Common.{ap, sym, ◌∙◌}
use Rattle.std.specs.List.{list_all}
use Rattle.std.specs.Option.{is_some}
use Rattle.conda_refute.specs.Literals.{clause_true}
use Rattle.conda_sat.proofs.CasesLemmas.{denied_at_end, none_left_of}
use Rattle.conda_sat.proofs.SidesLemmas.{opposites_deny}
use Rattle.conda_sat.proofs.solver.by_both_sides.Goals as goal

pub returns-then-holds_opposites-clause-right : goal.returns-then-holds_opposites-clause-right
returns-then-holds_opposites-clause-right c =
    opposites_deny c.args.ledger.now.inputs c.args.assumed.now (sym c.holds_opposites.ensures ∙ c.if-holds_opposites.true)

pub returns-in_default-clause-right : goal.returns-in_default-clause-right
returns-in_default-clause-right c =
    let ends = none_left_of c.in_ok-sides.field-0 c.in_ok-sides.ensures.none (ap is_some c.in_default.is) in
    let denied = denied_at_end c.by_cases.new.ledger c.args.assumed.now (λ v every. (rw c.log.ensures.same at c.every_step_holds.ensures) c.log.ensures.rule v every) ends in
    λ v clauses every. denied v (ap (list_all (clause_true v)) c.by_cases.ensures.inputs ∙ clauses) every
