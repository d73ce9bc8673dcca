use Rattle.std.proofs.Common.{◌≡◌, Some, ap, subst, ◌∙◌}
use Rattle.std.specs.BTreeMap.{Updates}
use Rattle.std.specs.Ordering.{nat_cmp}
use Rattle.std.specs.Prelude.{unwrap_or}
use Rattle.conda_changes.specs.Counting.{IsFirstFree, next_at}
use Rattle.conda_changes.proofs.CountLemmas.{first_is_free, one_counted}
use Rattle.conda_changes.proofs.NumberLemmas.{own_rest}
use Rattle.conda_changes.proofs.trash.next_trash.Goals as goal

pub returns-clause-free : goal.returns-clause-free
returns-clause-free c = λ used are.
    let rest = c.rest_of-rest.result in
    let made = c.in_ok-path.ensures in
    let start : c.unwrap_or-start.result ≡ next_at c.args.nexts.now rest = c.unwrap_or-start.ensures ∙ ap (λ o. unwrap_or o rest) (c.copied.ensures ∙ c.get.ensures.value) in
    first_is_free c.args.left.now c.args.number used c.args.nexts.now c.args.path.now c.in_ok-path.field-0.path rest made.0 c.rest_of-rest.ensures.below
    (own_rest rest c.rest_of-rest.ensures.below ∙ c.rest_of-rest.ensures.rest) are
    (subst (λ n. IsFirstFree c.args.left.now c.args.number n made.0) start made.1) made.2

pub returns-clause-counted : goal.returns-clause-counted
returns-clause-counted c = λ used are.
    let rest = c.rest_of-rest.result in
    let made = c.in_ok-path.ensures in
    let start : c.unwrap_or-start.result ≡ next_at c.args.nexts.now rest = c.unwrap_or-start.ensures ∙ ap (λ o. unwrap_or o rest) (c.copied.ensures ∙ c.get.ensures.value) in
    one_counted c.args.left.now c.args.number used c.args.nexts.now c.insert.new.self c.in_ok-path.field-0.path rest made.0 c.rest_of-rest.ensures.below are
    (subst (λ n. IsFirstFree c.args.left.now c.args.number n made.0) start made.1) made.2
    (subst (λ n. Updates nat_cmp c.args.nexts.now c.insert.new.self rest (Some n)) made.3 c.in_ok-insert.ensures.updates)
