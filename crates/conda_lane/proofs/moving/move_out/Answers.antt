use Rattle.std.proofs.Common.{refl, arith, ◌∙◌}
use Rattle.conda_lane.specs.Changes.{IsMoved, IsReady}
use Rattle.conda_lane.proofs.EffectLemmas.{moved_between, moved_local, ready_at}
use Rattle.conda_lane.proofs.WalkLemmas.{Plain, change_later, leads_from, step_off, step_on, still_so, walk_first, walk_halted, walk_whole}
use Rattle.conda_lane.proofs.moving.move_out.Goals as goal

pub loop-change-init : goal.loop-change-init
loop-change-init g c = record { told = walk_first (Plain IsMoved) c.args.changes.now (g.L.Lane.told c.args.lane.now); share = refl; later = omega arith }

pub move_away-requires-clause-change : goal.move_away-requires-clause-change
move_away-requires-clause-change g c = λ _ _.
    change_later _ _ c.loop-change.change-index c.change-item.result c.args.changes.now c.loop-change.invariant.share c.requires.changes c.loop-change-test.true c.change-item.is

pub move_away-requires-clause-ready : goal.move_away-requires-clause-ready
move_away-requires-clause-ready g c = λ _ _.
    let change = c.change-item.result in
    still_so IsReady IsMoved c.loop-change.change-index change c.args.changes.now _ _ (λ before now same r. ready_at before now change same r) c.loop-change-test.true c.change-item.is
    c.requires.start c.loop-change.invariant.told

pub returns-in_err-move_away-clause-between : goal.returns-in_err-move_away-clause-between
returns-in_err-move_away-clause-between g c = λ kept.
    let changes = c.args.changes.now in
    leads_from (λ before now ready h. moved_between kept before now changes ready h) _ _ c.requires.start
    (step_off IsMoved moved_local c.loop-change.change-index c.change-item.result changes c.requires.changes.apart c.loop-change-test.true c.change-item.is _ _ _ c.loop-change.invariant.told c.in_err-move_away.ensures.err)

pub loop-change-preserved : goal.loop-change-preserved
loop-change-preserved g c = record {
  told =
      step_on IsMoved moved_local c.loop-change.change-index c.change-item.result c.args.changes.now c.requires.changes.apart c.loop-change-test.true c.change-item.is _ _ _ c.loop-change.invariant.told
      c.in_ok-move_away.ensures.ok;
  share = c.in_ok-move_away.ensures.share ∙ c.loop-change.invariant.share;
  later = omega (arith, c.loop-change.invariant.later, c.in_ok-move_away.ensures.cause.later);
}

pub returns-clause-ok : goal.returns-clause-ok
returns-clause-ok g c = walk_whole IsMoved c.loop-change.change-index c.args.changes.now _ _ c.loop-change-test.false c.loop-change.invariant.told

pub returns-clause-between : goal.returns-clause-between
returns-clause-between g c = λ kept.
    let changes = c.args.changes.now in
    leads_from (λ before now ready h. moved_between kept before now changes ready h) _ _ c.requires.start
    (walk_halted IsMoved c.loop-change.change-index changes _ _ c.loop-change.invariant.told)
