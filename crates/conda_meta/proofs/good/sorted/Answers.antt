use Rattle.std.specs.Prelude.{◌≡◌}
use Rattle.std.proofs.lemmas.Result.{IfOk-weaker}
use Rattle.conda_goods.specs.Goods.{IsSortedOf}
use Rattle.conda_meta.proofs.GoodsLemmas.{apart, same_goods}
use Rattle.conda_meta.proofs.good.sorted.Goals as goal

pub make-requires : goal.make-requires
make-requires c = apart c.args.goods.items ((c.ascending_laws.ensures _).0 c.requires)

pub returns : goal.returns
returns c =
    IfOk-weaker c.make.result (IsSortedOf c.args.goods.items) (λ made. made ≡ c.args.goods.items)
    (λ made sorted. same_goods c.args.goods.items made c.requires sorted) c.make.ensures
