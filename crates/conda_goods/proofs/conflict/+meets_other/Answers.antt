use Rattle.std.proofs.Common.{ℕ, List, Bool, sym, ap, ◌∙◌}
use Rattle.std.specs.Prelude.{option_copied}
use Rattle.std.specs.BTreeMap.{get_by}
use Rattle.std.specs.Cmp.Lexicographic.{slice_cmp}
use Rattle.std.specs.Ordering.{nat_cmp}
use Rattle.conda_goods.specs.Claims.{held_by_other}
use Rattle.conda_goods.proofs.Folders.{meets_folder, meets_here, meets_none}
use Rattle.conda_goods.proofs.conflict.+meets_other.Goals as goal

pub returns-then-is_other : goal.returns-then-is_other
returns-then-is_other t c =
    let test : List ℕ → Bool = λ q. held_by_other (option_copied c.args.holder) (get_by (λ k. slice_cmp nat_cmp q k.now) c.args.at.now) in
    meets_here test c.args.path.now
    (ap (held_by_other (option_copied c.args.holder)) (sym (c.copied.ensures ∙ c.get.ensures.value)) ∙ sym c.is_other.ensures ∙ c.if-is_other.true)

pub returns-in-Some : goal.returns-in-Some
returns-in-Some t c =
    let test : List ℕ → Bool = λ q. held_by_other (option_copied c.args.holder) (get_by (λ k. slice_cmp nat_cmp q k.now) c.args.at.now) in
    meets_folder test c.args.path.now c.in-Some.folder.now c.in-Some.field-0-1.now c.meets_other.result
    (ap (held_by_other (option_copied c.args.holder)) (sym (c.copied.ensures ∙ c.get.ensures.value)) ∙ sym c.is_other.ensures ∙ c.if-is_other.false)
    c.in-Some.ensures.cut c.meets_other.ensures

pub returns-in-None : goal.returns-in-None
returns-in-None t c =
    let test : List ℕ → Bool = λ q. held_by_other (option_copied c.args.holder) (get_by (λ k. slice_cmp nat_cmp q k.now) c.args.at.now) in
    meets_none test c.args.path.now
    (ap (held_by_other (option_copied c.args.holder)) (sym (c.copied.ensures ∙ c.get.ensures.value)) ∙ sym c.is_other.ensures ∙ c.if-is_other.false)
    c.in-None.ensures.cut
