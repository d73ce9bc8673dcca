use Rattle.std.proofs.Common.{◌≡◌, ◌++◌, ◌∙◌, IsPermutation, List, ℕ, ap, subst, sym}
use Rattle.conda_index.specs.Gather.{shown, virtual_records}
use Rattle.conda_index.specs.Pools.{IsIndex, IsPool, given, pool_of, pool_records}
use Rattle.conda_record.specs.declared.pkg_record.PkgRecord.{PkgRecord}
use Rattle.conda_index.proofs.OrderLemmas.{VersionLaws}
use Rattle.conda_index.proofs.PoolLemmas.{made, pooled, whole}
use Rattle.conda_index.proofs.index.Index.make.Goals as goal

pub invariant_of-result : goal.invariant_of-result
invariant_of-result g c =
    let new = c.put_in_order.new.records in
    let start : c.as_mut_slice.result.now ≡ shown (given c.args.parts.items) ++ virtual_records c.args.virtuals.items =
    c.as_mut_slice.ensures.value ∙ c.in_ok-take_virtuals.ensures
    ∙ ap (λ l. l ++ virtual_records c.args.virtuals.items) c.in_ok-records.ensures
    in
    let same : IsPermutation (shown (given c.args.parts.items) ++ virtual_records c.args.virtuals.items) new =
    subst (λ l. IsPermutation l new) start c.put_in_order.ensures.same
    in
    let all =
    whole c.as_mut_slice.result.now c.take_virtuals.new.records.items new c.take_virtuals.new.records.len c.as_mut_slice.ensures.value
    c.as_mut_slice.ensures.len c.put_in_order.ensures.same
    in
    subst IsIndex (sym all)
    (made c.args.parts.items c.args.virtuals.items new c.requires.plain c.requires.few same c.put_in_order.ensures.order)

pub returns-clause-pools : goal.returns-clause-pools
returns-clause-pools g c =
    let laws : VersionLaws =
    record { transitive = c.order_laws.ensures.transitive; total = c.order_laws.ensures.total; equals = c.order_laws.ensures.equals }
    in
    let new = c.put_in_order.new.records in
    let start : c.as_mut_slice.result.now ≡ shown (given c.args.parts.items) ++ virtual_records c.args.virtuals.items =
    c.as_mut_slice.ensures.value ∙ c.in_ok-take_virtuals.ensures
    ∙ ap (λ l. l ++ virtual_records c.args.virtuals.items) c.in_ok-records.ensures
    in
    let same : IsPermutation (shown (given c.args.parts.items) ++ virtual_records c.args.virtuals.items) new =
    subst (λ l. IsPermutation l new) start c.put_in_order.ensures.same
    in
    let all =
    whole c.as_mut_slice.result.now c.take_virtuals.new.records.items new c.take_virtuals.new.records.len c.as_mut_slice.ensures.value
    c.as_mut_slice.ensures.len c.put_in_order.ensures.same
    in
    subst (λ (index : List PkgRecord). (name : List ℕ) → IsPool (pool_records c.args.parts.items c.args.virtuals.items name) (pool_of index name))
    (sym all) (pooled laws c.args.parts.items c.args.virtuals.items new same c.put_in_order.ensures.order)
