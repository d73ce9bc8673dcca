use Rattle.conda_lane.specs.Purge.{IsErased}
use Rattle.conda_lane.proofs.StepLemmas.{erase_old, goes_as, on_err, stays_or_goes}
use Rattle.conda_lane.proofs.step.erase_trash.Goals as goal

pub returns-in_err-erase-clause-err : goal.returns-in_err-erase-clause-err
returns-in_err-erase-clause-err g c =
    let leads = erase_old (g.L.Lane.told c.args.lane.now) c.args.change.now c.requires.apart c.if-change.true in
    on_err c.from_residual.result (stays_or_goes IsErased c.args.change.now _ _ _ c.in_err-erase.ensures.err leads)

pub returns-in_ok-erase-clause-ok : goal.returns-in_ok-erase-clause-ok
returns-in_ok-erase-clause-ok g c =
    let leads = erase_old (g.L.Lane.told c.args.lane.now) c.args.change.now c.requires.apart c.if-change.true in
    goes_as IsErased c.args.change.now _ _ _ c.in_ok-erase.ensures.ok leads
