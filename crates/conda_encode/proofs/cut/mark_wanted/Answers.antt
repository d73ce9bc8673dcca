use Rattle.std.proofs.Common.{sym}
use Rattle.conda_encode.proofs.Reaching.{wanted_all, wanted_more}
use Rattle.conda_encode.proofs.cut.mark_wanted.Goals as goal

pub loop-item-preserved : goal.loop-item-preserved
loop-item-preserved c = record {
  known = c.in_ok-mark_item.ensures.known;
  sound = c.in_ok-mark_item.ensures.sound;
  marked = wanted_more c.args.pools.now c.args.model.now c.loop-item.marks c.mark_item.new.marks c.args.items.now c.loop-item.item-index c.item-item.result c.loop-item-test.true
      (sym c.item-item.is) c.loop-item.invariant.marked c.in_ok-mark_item.ensures.grows c.in_ok-mark_item.ensures.marked;
}

pub returns-clause-marked : goal.returns-clause-marked
returns-clause-marked c = wanted_all c.args.pools.now c.args.model.now c.loop-item.marks c.args.items.now c.loop-item.item-index c.loop-item-test.false c.loop-item.invariant.marked
