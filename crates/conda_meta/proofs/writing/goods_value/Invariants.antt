use Rattle.std.specs.Prelude.{◌≡◌, map, take}
use Rattle.std.specs.List.{AllByRecursion}
use Rattle.serde_json.specs.View.{view}
use Rattle.conda_meta.specs.Texts.{good_data}
use Rattle.conda_meta.specs.Back.{IsWritten}
use Rattle.conda_meta.proofs.writing.goods_value.Given as goal

abbrev pub invariant-loop-good : goal.invariant-loop-good
invariant-loop-good l =
    (map view l.list.items ≡ map good_data (take l.good-index l.goods)) × AllByRecursion IsWritten (take l.good-index l.goods)
