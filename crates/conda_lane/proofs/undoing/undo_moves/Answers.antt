use Rattle.std.proofs.Common.{refl, arith, ◌∙◌}
use Rattle.conda_lane.specs.Undo.{HasOneNode, IsMovedBackAt}
use Rattle.conda_lane.specs.Changes.{at}
use Rattle.conda_lane.proofs.EffectLemmas.{back_between, back_undone, moved_back_local, one_node_at}
use Rattle.conda_lane.proofs.WalkLemmas.{Plain, change_later, leads_map, step_off, step_on, still_so, walk_first, walk_halted, walk_whole}
use Rattle.conda_lane.proofs.undoing.undo_moves.Goals as goal

pub loop-change-init : goal.loop-change-init
loop-change-init g c = record { told = walk_first (Plain IsMovedBackAt) c.args.changes.now (g.L.Lane.told c.args.lane.now); share = refl; later = omega arith }

pub move_back-requires-clause-change : goal.move_back-requires-clause-change
move_back-requires-clause-change g c = λ _ _.
    change_later _ _ c.loop-change.change-index c.change-item.result c.args.changes.now c.loop-change.invariant.share c.requires.changes c.loop-change-test.true c.change-item.is

pub move_back-requires-clause-free : goal.move_back-requires-clause-free
move_back-requires-clause-free g c = λ _ _.
    let change = c.change-item.result in
    still_so (λ tree d. HasOneNode d.old (at tree d.path) (at tree d.trash)) IsMovedBackAt c.loop-change.change-index change c.args.changes.now _ _ (λ before now same h. one_node_at before now change same h)
    c.loop-change-test.true c.change-item.is c.requires.cleared c.loop-change.invariant.told

pub returns-in_err-move_back-clause-same : goal.returns-in_err-move_back-clause-same
returns-in_err-move_back-clause-same g c =
    let changes = c.args.changes.now in
    leads_map (λ before now h. back_undone before now changes c.requires.changes.apart h) _ _
    (step_off IsMovedBackAt moved_back_local c.loop-change.change-index c.change-item.result changes c.requires.changes.apart c.loop-change-test.true c.change-item.is _ _ _ c.loop-change.invariant.told c.in_err-move_back.ensures.err)

pub returns-in_err-move_back-clause-between : goal.returns-in_err-move_back-clause-between
returns-in_err-move_back-clause-between g c = λ kept start ready.
    let changes = c.args.changes.now in
    leads_map (λ before now h. back_between kept start before now changes ready h) _ _
    (step_off IsMovedBackAt moved_back_local c.loop-change.change-index c.change-item.result changes c.requires.changes.apart c.loop-change-test.true c.change-item.is _ _ _ c.loop-change.invariant.told c.in_err-move_back.ensures.err)

pub loop-change-preserved : goal.loop-change-preserved
loop-change-preserved g c = record {
  told =
      step_on IsMovedBackAt moved_back_local c.loop-change.change-index c.change-item.result c.args.changes.now c.requires.changes.apart c.loop-change-test.true c.change-item.is _ _ _ c.loop-change.invariant.told
      c.in_ok-move_back.ensures.ok;
  share = c.in_ok-move_back.ensures.share ∙ c.loop-change.invariant.share;
  later = omega (arith, c.loop-change.invariant.later, c.in_ok-move_back.ensures.cause.later);
}

pub returns-clause-ok : goal.returns-clause-ok
returns-clause-ok g c = walk_whole IsMovedBackAt c.loop-change.change-index c.args.changes.now _ _ c.loop-change-test.false c.loop-change.invariant.told

pub returns-clause-same : goal.returns-clause-same
returns-clause-same g c =
    let changes = c.args.changes.now in
    leads_map (λ before now h. back_undone before now changes c.requires.changes.apart h) _ _ (walk_halted IsMovedBackAt c.loop-change.change-index changes _ _ c.loop-change.invariant.told)

pub returns-clause-between : goal.returns-clause-between
returns-clause-between g c = λ kept start ready.
    let changes = c.args.changes.now in
    leads_map (λ before now h. back_between kept start before now changes ready h) _ _ (walk_halted IsMovedBackAt c.loop-change.change-index changes _ _ c.loop-change.invariant.told)
