use Rattle.std.specs.Prelude.{◌≡◌, map, take}
use Rattle.serde_json.specs.View.{view}
use Rattle.serde_json.specs.Data.{string}
use Rattle.conda_goods.specs.Goods.{paths_of}
use Rattle.conda_meta.proofs.writing.files_value.Given as goal

abbrev pub invariant-loop-good : goal.invariant-loop-good
invariant-loop-good l =
    map view l.list.items ≡ map string (paths_of (take l.good-index l.goods))
