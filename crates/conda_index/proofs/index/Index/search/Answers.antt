use Rattle.std.proofs.Common.{◌≡◌, ◌∙◌, ap, filter, map, subst, sym}
use Rattle.std.proofs.lemmas.List.Kept.{IsSortedBy-filter}
use Rattle.std.specs.List.Sorted.{IsSorted}
use Rattle.std.specs.Ordering.{is_lt}
use Rattle.conda_encode.specs.Matching.{names}
use Rattle.conda_index.specs.Order.{index_cmp}
use Rattle.conda_index.proofs.OrderLemmas.{VersionLaws, ranks}
use Rattle.conda_index.proofs.index.Index.search.Goals as goal

pub returns-clause-order : goal.returns-clause-order
returns-clause-order g c =
    let laws : VersionLaws =
    record { transitive = c.order_laws.ensures.transitive; total = c.order_laws.ensures.total; equals = c.order_laws.ensures.equals }
    in
    let records = c.self.inside.records.items in
    let is : c.in_ok-copied_refs.field-0.items ≡ filter (names c.args.spec.now) records =
    c.in_ok-copied_refs.ensures ∙ ap (map (λ pkg. pkg.now)) c.as_slice-2.ensures.value ∙ c.in_ok-found.ensures
    ∙ ap (filter (names c.args.spec.now)) c.as_slice.ensures.value
    in
    subst (IsSorted index_cmp) (sym is)
    (IsSortedBy-filter (λ a b. is_lt (index_cmp a b)) (ranks laws) (names c.args.spec.now) records c.self.invariant.order)
