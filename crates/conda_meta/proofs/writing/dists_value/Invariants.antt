use Rattle.std.specs.Prelude.{◌≡◌, map, take}
use Rattle.std.specs.List.{AllByRecursion}
use Rattle.serde_json.specs.View.{view}
use Rattle.serde_json.specs.Data.{string}
use Rattle.conda_path.specs.Dists.{IsDist}
use Rattle.conda_meta.proofs.writing.dists_value.Given as goal

abbrev pub invariant-loop-dist : goal.invariant-loop-dist
invariant-loop-dist l =
    (map view l.list.items ≡ map string (take l.dist-index l.dists)) × AllByRecursion IsDist (take l.dist-index l.dists)
