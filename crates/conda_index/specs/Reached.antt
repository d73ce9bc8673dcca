-- Which names a request can meet.
use Rattle.std.specs.Prelude.{◌≡◌, ℕ, List, map, Contains}
use Rattle.conda_spec.specs.Parts.{Parts}
use Rattle.conda_record.specs.declared.pkg_record.PkgRecord.{PkgRecord}
use Rattle.conda_record.specs.declared.pool.NamePool.{NamePool}
use Rattle.conda_encode.specs.Matching.{lowered}
use Rattle.conda_encode.specs.declared.asked.AskKind.{AskKind}
use Rattle.conda_encode.specs.declared.asked.Asked.{Asked}
use Rattle.conda_index.specs.Pools.{pool_of}

-- A name is reached where a wanted item has it, or a dependency of a record in the pool of a name that is reached.
pub data Reaches (index : List PkgRecord) (asked : List Asked) : List ℕ → Type 0 where
  wanted : (item : Asked) → Contains asked item → item.kind ≡ AskKind.Wanted → Reaches index asked (lowered item.spec.name)
  needed : (name : List ℕ) (pkg : PkgRecord) (need : Parts) → Reaches index asked name → Contains (pool_of index name) pkg
      → Contains pkg.depends need → Reaches index asked (lowered need.name)

-- the names of pools
abbrev pub names_of : List NamePool → List (List ℕ)
names_of pools = map (λ pool. pool.name) pools
