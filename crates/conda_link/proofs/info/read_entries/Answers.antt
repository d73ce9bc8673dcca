use Rattle.std.specs.Prelude.{◌≡◌, ◌+◌, ◌∷◌, drop}
use Rattle.std.proofs.Common.{ℕ, ◌<◌, List, length, get_or, ap, sym, ◌∙◌, add-one, drop-cons}
use Rattle.serde_json.specs.View.{items_view, view}
use Rattle.conda_json.specs.Fields.{each_from, read_on}
use Rattle.conda_link.specs.Links.{entry_read}
use Rattle.conda_link.proofs.LinkLemmas.{one_entry}
use Rattle.conda_link.proofs.info.read_entries.Goals as goal

cut_at : {A : Type 0} (list : List A) (at : ℕ) (d : A) → at < length list → drop at list ≡ get_or list at d ∷ drop (at + 1) list
cut_at list at d below = drop-cons list at d below ∙ ap (λ next. get_or list at d ∷ drop next list) (sym (add-one at))

pub loop-at-preserved : goal.loop-at-preserved
loop-at-preserved c =
    let at = c.loop-at.at in
    let elements = c.args.elements.now in
    let element = c.index-elements-at.result in
    let left = items_view (drop (at + 1) elements) in
    ap (λ made. read_on made (each_from (at + 1) entry_read left)) c.in_ok-push-in-Some.ensures.ok
    ∙ sym (one_entry c.loop-at.entries at (view element) left c.in-Some.entry (sym c.in_ok-entry.ensures ∙ c.in-Some.is))
    ∙ ap (λ list. read_on c.loop-at.entries (each_from at entry_read (items_view list)))
    (ap (λ x. x ∷ drop (at + 1) elements) c.index-elements-at.is ∙ sym (cut_at elements at element c.loop-at-test.true))
    ∙ c.loop-at.invariant
