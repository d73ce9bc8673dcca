use Rattle.std.proofs.Common.{◌≡◌, rules, subst, sym}
use Rattle.std.proofs.lemmas.Fn.{always_returns_same}
use Rattle.std.specs.List.Sorted.{IsSorted}
use Rattle.conda_index.specs.Order.{is_before, is_within, plain_cmp}
use Rattle.conda_index.specs.Pools.{pool_of}
use Rattle.conda_index.proofs.OrderLemmas.{VersionLaws, plain_pool}
use Rattle.conda_index.proofs.PoolLemmas.{pool_at}
use Rattle.conda_index.proofs.index.pool_in.Goals as goal

pub returns-clause-pool : goal.returns-clause-pool
returns-clause-pool c =
    let laws : VersionLaws =
    record { transitive = c.order_laws.ensures.transitive; total = c.order_laws.ensures.total; equals = c.order_laws.ensures.equals }
    in
    let pool : c.split_at-2.result.0.now ≡ pool_of c.args.records.now c.args.name.now =
    pool_at laws c.args.name.now c.args.records.now c.requires.order c.partition_point-start.result c.partition_point-count.result
    c.split_at.result.1.now c.split_at-2.result.0.now c.split_at.ensures.back c.split_at-2.ensures.front
    c.partition_point-start.ensures.bound c.partition_point-count.ensures.bound
    (c.partition_point-start.ensures.partitioned (is_before c.args.name.now)
    (always_returns_same _ (λ a r. r ≡ is_before c.args.name.now a.0.now) _ (λ a r q k. search rules)))
    (c.partition_point-count.ensures.partitioned (is_within c.args.name.now)
    (always_returns_same _ (λ a r. r ≡ is_within c.args.name.now a.0.now) _ (λ a r q k. search rules)))
    in
    pool

pub returns-clause-order : goal.returns-clause-order
returns-clause-order c =
    let laws : VersionLaws =
    record { transitive = c.order_laws.ensures.transitive; total = c.order_laws.ensures.total; equals = c.order_laws.ensures.equals }
    in
    let pool : c.split_at-2.result.0.now ≡ pool_of c.args.records.now c.args.name.now =
    pool_at laws c.args.name.now c.args.records.now c.requires.order c.partition_point-start.result c.partition_point-count.result
    c.split_at.result.1.now c.split_at-2.result.0.now c.split_at.ensures.back c.split_at-2.ensures.front
    c.partition_point-start.ensures.bound c.partition_point-count.ensures.bound
    (c.partition_point-start.ensures.partitioned (is_before c.args.name.now)
    (always_returns_same _ (λ a r. r ≡ is_before c.args.name.now a.0.now) _ (λ a r q k. search rules)))
    (c.partition_point-count.ensures.partitioned (is_within c.args.name.now)
    (always_returns_same _ (λ a r. r ≡ is_within c.args.name.now a.0.now) _ (λ a r q k. search rules)))
    in
    subst (IsSorted plain_cmp) (sym pool) (plain_pool laws c.args.name.now c.args.records.now c.requires.order)
