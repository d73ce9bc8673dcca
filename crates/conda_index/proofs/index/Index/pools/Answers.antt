use Rattle.std.proofs.Common.{◌≡◌, List, get_or, subst, sym}
use Rattle.std.proofs.lemmas.List.Elements.{All-contains, Contains-get_or}
use Rattle.std.specs.List.Sorted.{IsSorted}
use Rattle.conda_record.specs.declared.pkg_record.PkgRecord.{PkgRecord}
use Rattle.conda_record.specs.declared.pool.NamePool.{NamePool}
use Rattle.conda_index.specs.Order.{plain_cmp}
use Rattle.conda_index.specs.Pools.{IsIndex, pool_of}
use Rattle.conda_index.proofs.OrderLemmas.{VersionLaws, plain_pool}
use Rattle.conda_index.proofs.ReachLemmas.{in_map, reached_lowered}
use Rattle.conda_index.proofs.RequestLemmas.{request}
use Rattle.conda_index.proofs.index.Index.pools.Goals as goal

pub returns-clause-names : goal.returns-clause-names
returns-clause-names c =
    λ name. (
      λ h. (c.in_ok-reached.ensures name).0 ((c.in_ok-pools_of.ensures.names name).0 h),
      λ r. (c.in_ok-pools_of.ensures.names name).1 ((c.in_ok-reached.ensures name).1 r),
    )

pub returns-clause-lowered : goal.returns-clause-lowered
returns-clause-lowered c =
    let pools = c.in_ok-pools_of.field-0.items in
    λ k d short.
    reached_lowered (get_or pools k d).name
    ((c.in_ok-reached.ensures (get_or pools k d).name).0 ((c.in_ok-pools_of.ensures.names (get_or pools k d).name).0
    (in_map (λ (p : NamePool). p.name) pools (get_or pools k d) (Contains-get_or pools k d short))))

pub returns-clause-order : goal.returns-clause-order
returns-clause-order c =
    let laws : VersionLaws =
    record { transitive = c.order_laws.ensures.transitive; total = c.order_laws.ensures.total; equals = c.order_laws.ensures.equals }
    in
    let pools = c.in_ok-pools_of.field-0.items in
    λ k d short.
    subst (IsSorted plain_cmp) (sym (c.in_ok-pools_of.ensures.records k d short))
    (subst (λ (index : List PkgRecord). IsSorted plain_cmp (pool_of index (get_or pools k d).name)) c.self.view_is
    (plain_pool laws (get_or pools k d).name c.self.inside.records.items c.self.invariant.order))

pub returns-clause-request : goal.returns-clause-request
returns-clause-request c =
    let pools = c.in_ok-pools_of.field-0.items in
    let is : IsIndex c.args.self.now = subst (λ (index : List PkgRecord). IsIndex index) c.self.view_is c.self.invariant in
    request c.args.self.now is pools
    (λ name h.
    reached_lowered name ((c.in_ok-reached.ensures name).0 ((c.in_ok-pools_of.ensures.names name).0 h)))
    c.in_ok-pools_of.ensures.ascending
    (λ pool h. All-contains (λ (p : NamePool). p.recs ≡ pool_of c.args.self.now p.name) pools pool c.in_ok-pools_of.ensures.records h)
    c.args.asked.now
