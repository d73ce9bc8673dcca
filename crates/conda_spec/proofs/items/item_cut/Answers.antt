use Rattle.std.proofs.Common.{◌≡◌, ◌∷◌, ◌<◌, ◌+◌, ◌-◌, ℕ, List, None, Some, length, get_or, take, drop, sym, ap, subst, ◌∙◌, arith}
use Rattle.std.proofs.lemmas.Str.{IsCharBoundary-after_ascii, IsCharBoundary-before_ascii}
use Rattle.conda_spec.specs.Reading.{item_end, items_of}
use Rattle.conda_spec.proofs.ItemLemmas.{first_item, last_item}
use Rattle.conda_spec.proofs.items.item_cut.Goals as goal

-- the first item's end, in the text itself
record Cut (text : List ℕ) (at : ℕ) : Type 0 where
  inside : at < length text
  comma : get_or text at 0 ≡ 44
  items : items_of None text ≡ take at text ∷ items_of None (drop (at + 1) text)

cut_at : (text bytes : List ℕ) (at : ℕ) → bytes ≡ text → Some at ≡ item_end 0 None bytes → Cut text at
cut_at text bytes at same h =
    let ends = first_item 0 None text at (ap (item_end 0 None) (sym same) ∙ sym h) in
    let here : ends.len ≡ at = omega (arith, ends.place) in
    let P : ℕ → Type 0 =
    λ n. (n < length text) × (get_or text n 0 ≡ 44) × (items_of None text ≡ take n text ∷ items_of None (drop (n + 1) text)) in
    let all = subst P here (ends.inside, ends.comma, ends.items) in
    record { inside = all.0; comma = all.1; items = all.2 }

pub range-requires-clause-end_boundary : goal.range-requires-clause-end_boundary
range-requires-clause-end_boundary c =
    let cut = cut_at c.args.text.now c.as_bytes.result.now c.in-Some.at c.as_bytes.ensures.value c.in-Some.ensures in
    IsCharBoundary-before_ascii c.args.text.now c.in-Some.at cut.inside (omega (arith, cut.comma))

pub range_from-requires : goal.range_from-requires
range_from-requires c =
    let cut = cut_at c.args.text.now c.as_bytes.result.now c.in-Some.at c.as_bytes.ensures.value c.in-Some.ensures in
    λ _. IsCharBoundary-after_ascii c.args.text.now c.in-Some.at c.utf8.text cut.inside (omega (arith, cut.comma))

pub returns-in-Some-clause-items : goal.returns-in-Some-clause-items
returns-in-Some-clause-items c =
    let cut = cut_at c.args.text.now c.as_bytes.result.now c.in-Some.at c.as_bytes.ensures.value c.in-Some.ensures in
    let text : List ℕ = c.args.text.now in
    let at : ℕ = c.in-Some.at in
    let end : at - 0 ≡ at = omega arith in
    cut.items
    ∙ ap (λ q. q ∷ items_of None (drop (at + 1) text)) (sym (c.range.ensures.value ∙ ap (λ n. take n text) end))
    ∙ ap (λ q. c.range.result.now ∷ items_of None q) (sym c.range_from.ensures.value)

pub returns-in-None-clause-items : goal.returns-in-None-clause-items
returns-in-None-clause-items c =
    last_item 0 None c.args.text.now (ap (item_end 0 None) (sym c.as_bytes.ensures.value) ∙ sym c.in-None.ensures)
