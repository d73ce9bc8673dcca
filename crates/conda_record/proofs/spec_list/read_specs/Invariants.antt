use Rattle.std.specs.Prelude.{◌≡◌, drop}
use Rattle.serde_json.specs.View.{items_view}
use Rattle.conda_json.specs.Fields.{each_from, read_on}
use Rattle.conda_record.specs.Records.{plain_spec, specs_read}
use Rattle.conda_record.proofs.spec_list.read_specs.Given as goal

abbrev pub invariant-loop-element : goal.invariant-loop-element
invariant-loop-element l =
    read_on l.specs (each_from l.element-index (λ at. plain_spec l.field) (items_view (drop l.element-index l.elements)))
    ≡ specs_read l.field (items_view l.elements)
