use Rattle.std.proofs.Common.{sym, ap, ◌∙◌}
use Rattle.conda_goods.specs.Goods.{paths_of}
use Rattle.conda_meta.specs.Reading.{ascend}
use Rattle.conda_meta.proofs.ReadLemmas.{ascend_ok}
use Rattle.conda_meta.proofs.good.goods_field.Goals as goal

pub sorted-requires : goal.sorted-requires
sorted-requires c =
    ascend_ok _ (ap (λ goods. ascend (paths_of goods)) (sym c.as_slice.ensures.value) ∙ sym c.if-ascend.ensures)
