use Rattle.std.proofs.Common.{◌≡◌, ◌++◌, drop, take}
use Rattle.std.specs.List.{All}
use Rattle.conda_base.specs.Texts.{Ascending}
use Rattle.conda_goods.specs.Conflicts.{goods_of}
use Rattle.conda_goods.specs.Goods.{paths_of}
use Rattle.conda_goods.proofs.merge.sorted_goods.Given as goal

-- the goods so far, and those of the parts that are left; each part's so far ascend
abbrev pub invariant-loop-part : goal.invariant-loop-part
invariant-loop-part l = (l.goods.items ++ goods_of (drop l.part-index l.parts) ≡ goods_of l.parts)
    × All (λ part. Ascending (paths_of part.goods)) (take l.part-index l.parts)
