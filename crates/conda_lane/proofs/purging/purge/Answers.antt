use Rattle.std.proofs.Common.{refl, ◌∙◌}
use Rattle.conda_lane.proofs.PurgeLemmas.{purging_ascending, purging_count, purging_first, purging_kept, purging_more, purging_later, purging_numbers, purging_room, purging_tree}
use Rattle.conda_lane.proofs.WalkLemmas.{change_later}
use Rattle.conda_lane.proofs.purging.purge.Goals as goal

pub loop-number-init : goal.loop-number-init
loop-number-init g c = record {
  told = purging_first c.args.left.now.items (g.L.Lane.faults c.args.lane.now) (g.L.Lane.told c.args.lane.now) c.args.changes.now;
  share = refl;
  capacity = refl;
}

pub purge_one-requires-clause-change : goal.purge_one-requires-clause-change
purge_one-requires-clause-change g c κs within =
    change_later _ _ c.loop-number.number c.index-changes-number.result c.args.changes.now c.loop-number.invariant.share c.requires.changes c.loop-number-test.true c.index-changes-number.is

pub purge_one-requires-clause-room : goal.purge_one-requires-clause-room
purge_one-requires-clause-room g c κs within =
    purging_room _ _ _ _ _ _ _ _ _ _ _ _ c.args.left.now.ok.0 c.loop-number.left.ok.0 c.loop-number.invariant.told c.loop-number-test.true c.requires.room c.loop-number.invariant.capacity

pub loop-number-preserved : goal.loop-number-preserved
loop-number-preserved g c = record {
  told = purging_more _ _ _ c.loop-number.number c.index-changes-number.result c.args.changes.now c.requires.changes.apart c.loop-number-test.true c.index-changes-number.is _ _ _ _ _ _ c.loop-number.invariant.told c.purge_one.ensures.later c.purge_one.ensures.done;
  share = c.purge_one.ensures.share ∙ c.loop-number.invariant.share;
  capacity = c.purge_one.ensures.capacity ∙ c.loop-number.invariant.capacity;
}

pub returns-clause-tree : goal.returns-clause-tree
returns-clause-tree g c = purging_tree _ _ _ _ _ c.loop-number-test.false c.loop-number.auto.number-end _ _ _ _ _ c.args.left.now.ok.0 c.loop-number.left.ok.0 c.loop-number.invariant.told

pub returns-clause-first : goal.returns-clause-first
returns-clause-first g c = purging_kept _ _ _ _ _ c.loop-number-test.false c.loop-number.auto.number-end _ _ _ _ _ c.args.left.now.ok.0 c.loop-number.left.ok.0 c.loop-number.invariant.told

pub returns-clause-ascending : goal.returns-clause-ascending
returns-clause-ascending g c = purging_ascending _ _ _ _ _ c.loop-number-test.false c.loop-number.auto.number-end _ _ _ _ _ c.args.left.now.ok.0 c.loop-number.left.ok.0 c.loop-number.invariant.told

pub returns-clause-numbers : goal.returns-clause-numbers
returns-clause-numbers g c = purging_numbers _ _ _ _ _ c.loop-number-test.false c.loop-number.auto.number-end _ _ _ _ _ c.args.left.now.ok.0 c.loop-number.left.ok.0 c.loop-number.invariant.told

pub returns-clause-count : goal.returns-clause-count
returns-clause-count g c = purging_count _ _ _ _ _ c.loop-number-test.false c.loop-number.auto.number-end _ _ _ _ _ c.args.left.now.ok.0 c.loop-number.left.ok.0 c.loop-number.invariant.told

pub returns-clause-later : goal.returns-clause-later
returns-clause-later g c = purging_later _ _ _ _ _ c.loop-number-test.false c.loop-number.auto.number-end _ _ _ _ _ c.args.left.now.ok.0 c.loop-number.left.ok.0 c.loop-number.invariant.told
