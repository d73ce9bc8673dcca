use Rattle.conda_lane.specs.Changes.{IsMoved}
use Rattle.conda_lane.proofs.StepLemmas.{goes_as, on_err, shift_out, stays_or_goes}
use Rattle.conda_lane.proofs.step.move_away.Goals as goal

pub returns-in_err-shift-clause-err : goal.returns-in_err-shift-clause-err
returns-in_err-shift-clause-err g c =
    let leads = shift_out (g.L.Lane.told c.args.lane.now) c.args.change.now c.requires.change.apart c.requires.ready c.if-change.true in
    on_err c.from_residual.result (stays_or_goes IsMoved c.args.change.now _ _ _ c.in_err-shift.ensures.err leads)

pub returns-in_ok-shift-clause-ok : goal.returns-in_ok-shift-clause-ok
returns-in_ok-shift-clause-ok g c =
    let leads = shift_out (g.L.Lane.told c.args.lane.now) c.args.change.now c.requires.change.apart c.requires.ready c.if-change.true in
    goes_as IsMoved c.args.change.now _ _ _ c.in_ok-shift.ensures.ok leads
