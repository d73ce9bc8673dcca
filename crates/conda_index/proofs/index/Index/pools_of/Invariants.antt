use Rattle.std.proofs.Common.{◌≡◌, All, take}
use Rattle.conda_index.specs.Pools.{pool_of}
use Rattle.conda_index.specs.Reached.{names_of}
use Rattle.conda_index.proofs.index.Index.pools_of.Given as goal

abbrev pub invariant-loop-name : goal.invariant-loop-name
invariant-loop-name l = record {
  names : names_of l.pools.items ≡ take l.name-index l.name-items;
  records : All (λ pool. pool.recs ≡ pool_of l.self pool.name) l.pools.items;
}
