use Rattle.conda_device.specs.Tree.{moved}
use Rattle.conda_lane.specs.Undo.{IsMovedBackAt}
use Rattle.conda_lane.proofs.StepLemmas.{found_true, goes_after, on_err, same_or_goes, shift_in}
use Rattle.conda_lane.proofs.step.move_back.Goals as goal

pub returns-in_err-shift-clause-err : goal.returns-in_err-shift-clause-err
returns-in_err-shift-clause-err g c =
    let change = c.args.change.now in
    let found = found_true (g.L.Lane.told c.args.lane.now) change _ c.if-branch.true c.in_ok-is_in_trash.ensures.found in
    let leads = shift_in (g.L.Lane.told c.args.lane.now) change c.requires.change.apart c.if-not-change.false found in
    on_err c.from_residual-in_err-shift.result (same_or_goes IsMovedBackAt change (λ t. moved t change.trash change.path) _ _ _ c.in_ok-is_in_trash.ensures.tree c.in_err-shift.ensures.err leads)

pub returns-in_ok-shift-clause-ok : goal.returns-in_ok-shift-clause-ok
returns-in_ok-shift-clause-ok g c =
    let change = c.args.change.now in
    let found = found_true (g.L.Lane.told c.args.lane.now) change _ c.if-branch.true c.in_ok-is_in_trash.ensures.found in
    let leads = shift_in (g.L.Lane.told c.args.lane.now) change c.requires.change.apart c.if-not-change.false found in
    goes_after IsMovedBackAt change (λ t. moved t change.trash change.path) _ _ _ c.in_ok-is_in_trash.ensures.tree c.in_ok-shift.ensures.ok leads
