-- The variables of a request: this project's own.
use Rattle.std.specs.Prelude.{◌≡◌, ◌≢◌, ℕ, ◌+◌, ◌-◌, ◌<◌, ◌^◌, false, List, [], ◌∷◌, length, slice_index_or}
use Rattle.std.specs.List.{AllPairs, Contains, flat_map, list_any, sum_by}
use Rattle.conda_base.specs.Signs.{star}
use Rattle.conda_base.specs.Texts.{is_byte}
use Rattle.conda_spec.specs.Parts.{Parts}
use Rattle.conda_record.specs.declared.pkg_record.PkgRecord.{PkgRecord}
use Rattle.conda_record.specs.declared.pool.NamePool.{NamePool}
use Rattle.conda_encode.specs.Matching.{lowered}
use Rattle.conda_encode.specs.declared.asked.Asked.{Asked}

-- these, numbered from n on
abbrev pub numbered : {A : Type 0} → ℕ → List A → List (ℕ × A)
numbered n [] = []
numbered n (x ∷ xs) = (n, x) ∷ numbered (n + 1) xs

-- the records of all pools
abbrev pub records : List NamePool → List PkgRecord
records pools = flat_map (λ pool. pool.recs) pools

-- each record with its variable
abbrev pub variables : List NamePool → List (ℕ × PkgRecord)
variables pools = numbered 1 (records pools)

-- a pool of k records has k - 1 helpers
abbrev pub helpers_of : NamePool → ℕ
helpers_of pool = length pool.recs - 1

-- the number of variables: one a record, and behind them the helpers
abbrev pub vars_of : List NamePool → ℕ
vars_of pools = length (records pools) + sum_by helpers_of pools

-- the pool at this place has this name
abbrev pub IsOneNamed : List NamePool → ℕ → List ℕ → Type 0
IsOneNamed pools at name = (at < length pools) × ((d : NamePool) → (slice_index_or pools at d).name ≡ name)

-- the specification's name has no star
abbrev pub IsPlain : Parts → Type 0
IsPlain spec = list_any (is_byte star) spec.name ≡ false

-- What can be written as clauses: pools of different names, each with records of its name alone, and fewer than 2^28 together; and
-- no star in a name.
pub record IsRequest (pools : List NamePool) (items : List Asked) : Type 0 where
  pub few : length (records pools) < 2 ^ 28
  pub apart : AllPairs (λ p q. p.name ≢ q.name) pools
  pub own : (pool : NamePool) → Contains pools pool → (pkg : PkgRecord) → Contains pool.recs pkg → lowered pkg.name ≡ pool.name
  pub items_plain : (item : Asked) → Contains items item → IsPlain item.spec
  pub depends_plain : (pkg : PkgRecord) → Contains (records pools) pkg → (spec : Parts) → Contains pkg.depends spec → IsPlain spec
  pub constrains_plain : (pkg : PkgRecord) → Contains (records pools) pkg → (spec : Parts) → Contains pkg.constrains spec → IsPlain spec
