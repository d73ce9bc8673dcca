use Rattle.conda_lane.specs.Undo.{IsClearedAt}
use Rattle.conda_lane.proofs.StepLemmas.{erase_new, goes_as, on_err, stays_or_goes}
use Rattle.conda_lane.proofs.step.clear.Goals as goal

pub returns-in_err-erase-clause-err : goal.returns-in_err-erase-clause-err
returns-in_err-erase-clause-err g c =
    let leads = erase_new (g.L.Lane.told c.args.lane.now) c.args.change.now c.requires.apart c.if-change.false in
    on_err c.from_residual.result (stays_or_goes IsClearedAt c.args.change.now _ _ _ c.in_err-erase.ensures.err leads)

pub returns-clause-ok : goal.returns-clause-ok
returns-clause-ok g c =
    let leads = erase_new (g.L.Lane.told c.args.lane.now) c.args.change.now c.requires.apart c.if-change.false in
    goes_as IsClearedAt c.args.change.now _ _ _ c.in_ok-erase.ensures.ok leads
