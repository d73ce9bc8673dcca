use Rattle.std.proofs.Common.{◌-◌, length, sym, ◌∙◌}
use Rattle.conda_sat.proofs.SidesLemmas.{denied_by, ended_by}
use Rattle.conda_sat.proofs.solver.last_step_denies.Goals as goal

pub returns-in-Some-clause-denied : goal.returns-in-Some-clause-denied
returns-in-Some-clause-denied c = λ h.
    denied_by c.args.ledger.now.inputs c.args.ledger.now.steps (length c.args.ledger.now.steps - 1) c.in-Some.step.now c.args.assumed.now
    (λ v every. (rw c.log-log.ensures.same at c.every_step_holds.ensures) c.log-log.ensures.rule v every)
    (let e = rw (c.as_slice.ensures, c.log-log.ensures.same) at c.in-Some.ensures.value in sym e)
    (rw c.as_slice-in-Some.ensures at (sym c.denies.ensures ∙ h))

pub returns-in-Some-clause-ended : goal.returns-in-Some-clause-ended
returns-in-Some-clause-ended c = λ h none.
    ended_by c.args.ledger.now.steps c.in-Some.step.now c.args.assumed.now
    (let e = rw (c.as_slice.ensures, c.log-log.ensures.same) at c.in-Some.ensures.value in sym e)
    (rw c.as_slice-in-Some.ensures at (sym c.denies.ensures ∙ h)) none
