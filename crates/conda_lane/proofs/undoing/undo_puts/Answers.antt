use Rattle.std.proofs.Common.{refl, arith, ◌∙◌}
use Rattle.conda_lane.specs.Undo.{IsClearedAt}
use Rattle.conda_lane.proofs.EffectLemmas.{cleared_between, cleared_undone, cleared_local}
use Rattle.conda_lane.proofs.WalkLemmas.{Plain, change_later, leads_map, step_off, step_on, walk_first, walk_halted, walk_whole}
use Rattle.conda_lane.proofs.undoing.undo_puts.Goals as goal

pub loop-change-init : goal.loop-change-init
loop-change-init g c = record { told = walk_first (Plain IsClearedAt) c.args.changes.now (g.L.Lane.told c.args.lane.now); share = refl; later = omega arith }

pub clear-requires-after_bounds : goal.clear-requires-after_bounds
clear-requires-after_bounds g c = λ _ _.
    change_later _ _ c.loop-change.change-index c.change-item.result c.args.changes.now c.loop-change.invariant.share c.requires c.loop-change-test.true c.change-item.is

pub returns-in_err-clear-clause-same : goal.returns-in_err-clear-clause-same
returns-in_err-clear-clause-same g c =
    let changes = c.args.changes.now in
    leads_map (λ before now h. cleared_undone before now changes c.requires.apart h) _ _
    (step_off IsClearedAt cleared_local c.loop-change.change-index c.change-item.result changes c.requires.apart c.loop-change-test.true c.change-item.is _ _ _ c.loop-change.invariant.told c.in_err-clear.ensures.err)

pub returns-in_err-clear-clause-between : goal.returns-in_err-clear-clause-between
returns-in_err-clear-clause-between g c = λ kept start ready.
    let changes = c.args.changes.now in
    leads_map (λ before now h. cleared_between kept start before now changes ready h) _ _
    (step_off IsClearedAt cleared_local c.loop-change.change-index c.change-item.result changes c.requires.apart c.loop-change-test.true c.change-item.is _ _ _ c.loop-change.invariant.told c.in_err-clear.ensures.err)

pub loop-change-preserved : goal.loop-change-preserved
loop-change-preserved g c = record {
  told =
      step_on IsClearedAt cleared_local c.loop-change.change-index c.change-item.result c.args.changes.now c.requires.apart c.loop-change-test.true c.change-item.is _ _ _ c.loop-change.invariant.told
      c.in_ok-clear.ensures.ok;
  share = c.in_ok-clear.ensures.share ∙ c.loop-change.invariant.share;
  later = omega (arith, c.loop-change.invariant.later, c.in_ok-clear.ensures.cause.later);
}

pub returns-clause-ok : goal.returns-clause-ok
returns-clause-ok g c = walk_whole IsClearedAt c.loop-change.change-index c.args.changes.now _ _ c.loop-change-test.false c.loop-change.invariant.told

pub returns-clause-same : goal.returns-clause-same
returns-clause-same g c =
    let changes = c.args.changes.now in
    leads_map (λ before now h. cleared_undone before now changes c.requires.apart h) _ _ (walk_halted IsClearedAt c.loop-change.change-index changes _ _ c.loop-change.invariant.told)

pub returns-clause-between : goal.returns-clause-between
returns-clause-between g c = λ kept start ready.
    let changes = c.args.changes.now in
    leads_map (λ before now h. cleared_between kept start before now changes ready h) _ _ (walk_halted IsClearedAt c.loop-change.change-index changes _ _ c.loop-change.invariant.told)
