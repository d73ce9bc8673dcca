use Rattle.conda_device.specs.Tree.{without}
use Rattle.conda_lane.specs.Undo.{IsClearedAt}
use Rattle.conda_lane.proofs.StepLemmas.{erase_replaced, found_true, same_or_goes, goes_after, on_err}
use Rattle.conda_lane.proofs.step.clear_replaced.Goals as goal

pub returns-in_err-erase-clause-err : goal.returns-in_err-erase-clause-err
returns-in_err-erase-clause-err g c =
    let found = found_true (g.L.Lane.told c.args.lane.now) c.args.change.now _ c.if-branch.true c.in_ok-is_in_trash.ensures.found in
    let leads = erase_replaced (g.L.Lane.told c.args.lane.now) c.args.change.now c.requires.change.apart c.requires.old found in
    on_err c.from_residual-in_err-erase.result (same_or_goes IsClearedAt c.args.change.now (λ t. without t c.args.change.now.path) _ _ _ c.in_ok-is_in_trash.ensures.tree c.in_err-erase.ensures.err leads)

pub returns-in_ok-erase-clause-ok : goal.returns-in_ok-erase-clause-ok
returns-in_ok-erase-clause-ok g c =
    let found = found_true (g.L.Lane.told c.args.lane.now) c.args.change.now _ c.if-branch.true c.in_ok-is_in_trash.ensures.found in
    let leads = erase_replaced (g.L.Lane.told c.args.lane.now) c.args.change.now c.requires.change.apart c.requires.old found in
    goes_after IsClearedAt c.args.change.now (λ t. without t c.args.change.now.path) _ _ _ c.in_ok-is_in_trash.ensures.tree c.in_ok-erase.ensures.ok leads
