use Rattle.conda_goods.proofs.Sorting.{apart_parts}
use Rattle.conda_goods.proofs.merge.union.Goals as goal

pub sorted_goods-requires : goal.sorted_goods-requires
sorted_goods-requires c =
    apart_parts c.args.parts.now c.args.others.now (rw c.in-Ok-None.field-0-is at c.in-Ok-None.ensures) c.requires
