use Rattle.std.specs.Prelude.{is_some}
use Rattle.std.proofs.Common.{sym, ◌∙◌, rules, tests}
use Rattle.std.proofs.lemmas.Iterator.{YieldsList-from_slice}
use Rattle.std.proofs.lemmas.Iterator.Search.{all_from_yields_List}
use Rattle.serde_json.specs.Find.{as_object}
use Rattle.serde_json.specs.View.{view}
use Rattle.conda_meta.proofs.LoopLemmas.{objects}
use Rattle.conda_meta.proofs.revision.are_objects.Goals as goal

pub returns : goal.returns
returns c =
    let elements = c.args.elements.now in
    all_from_yields_List (λ element. is_some (as_object (view element))) _ _ _ c.all.ensures.ran (YieldsList-from_slice elements cc) (λ x b q k. search (rules, tests))
    ∙ sym (objects elements)
