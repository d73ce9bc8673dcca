use Rattle.std.specs.Prelude.{◌≡◌, drop}
use Rattle.serde_json.specs.View.{items_view}
use Rattle.conda_json.specs.Fields.{each_from, element_text, read_on}
use Rattle.conda_json.proofs.required.texts_field.Given as goal

abbrev pub invariant-loop-element : goal.invariant-loop-element
invariant-loop-element l =
    read_on l.texts.items (each_from l.element-index (λ at. element_text l.field) (items_view (drop l.element-index l.list)))
    ≡ each_from 0 (λ at. element_text l.field) (items_view l.list)
