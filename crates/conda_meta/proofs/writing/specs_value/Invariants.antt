use Rattle.std.specs.Prelude.{◌≡◌, map, take}
use Rattle.std.specs.List.{AllByRecursion}
use Rattle.serde_json.specs.View.{view}
use Rattle.conda_record.specs.Records.{spec_data}
use Rattle.conda_record.specs.Rules.{ReadsBack}
use Rattle.conda_meta.proofs.writing.specs_value.Given as goal

abbrev pub invariant-loop-spec : goal.invariant-loop-spec
invariant-loop-spec l =
    (map view l.list.items ≡ map spec_data (take l.spec-index l.specs)) × AllByRecursion ReadsBack (take l.spec-index l.specs)
