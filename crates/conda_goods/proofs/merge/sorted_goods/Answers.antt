use Rattle.std.proofs.Common.{◌∙◌}
use Rattle.conda_goods.proofs.Sorting.{all_apart, goods_step, item_ascends}
use Rattle.conda_goods.proofs.merge.sorted_goods.Goals as goal

pub loop-part-preserved : goal.loop-part-preserved
loop-part-preserved c = (
  goods_step c.args.parts.now c.loop-part.part-index c.part-item.result c.loop-part.goods.items c.add_goods.new.goods.items c.loop-part-test.true c.part-item.is c.in_ok-add_goods.ensures.goods
      ∙ c.loop-part.invariant.0,
  item_ascends c.args.parts.now c.loop-part.part-index c.part-item.result c.loop-part-test.true c.part-item.is c.in_ok-add_goods.ensures.ascending c.loop-part.invariant.1,
)

pub make-requires : goal.make-requires
make-requires c =
    all_apart c.args.parts.now c.loop-part.part-index c.loop-part.goods.items c.requires c.loop-part-test.false c.loop-part.invariant.0 c.loop-part.invariant.1
