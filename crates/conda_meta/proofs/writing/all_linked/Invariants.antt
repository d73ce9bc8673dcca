use Rattle.std.specs.Prelude.{◌≡◌, map, take}
use Rattle.std.specs.List.{AllByRecursion}
use Rattle.serde_json.specs.View.{view}
use Rattle.conda_meta.specs.Texts.{linked_data}
use Rattle.conda_meta.specs.Back.{LinkedBack}
use Rattle.conda_meta.proofs.writing.all_linked.Given as goal

abbrev pub invariant-loop-one : goal.invariant-loop-one
invariant-loop-one l =
    (map view l.list.items ≡ map linked_data (take l.one-index l.linked)) × AllByRecursion LinkedBack (take l.one-index l.linked)
