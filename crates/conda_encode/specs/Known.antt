-- What is kept of the pools while a request is written.
use Rattle.std.specs.Prelude.{◌≡◌, ◌≢◌, ℕ, ◌+◌, ◌<◌, ◌^◌, List, [], ◌∷◌, length, slice_index_or, Ok}
use Rattle.std.specs.List.{All, AllPairs, Contains}
use Rattle.conda_version.specs.Text.{trimmed}
use Rattle.conda_spec.specs.Parts.{Parts}
use Rattle.conda_spec.specs.Reading.{spec_read}
use Rattle.conda_record.specs.declared.pkg_record.PkgRecord.{PkgRecord}
use Rattle.conda_record.specs.declared.pool.NamePool.{NamePool}
use Rattle.conda_encode.specs.Clauses.{each_barred, some_named}
use Rattle.conda_encode.specs.Matching.{lowered}
use Rattle.conda_encode.specs.Variables.{records}
use Rattle.conda_encode.specs.declared.known.Known.{Known}
use Rattle.conda_encode.specs.declared.known.Split.{Split}

-- pools as a request has them: of different names, each with records of its name alone, and fewer than 2^28 together
pub record ArePools (pools : List NamePool) : Type 0 where
  pub few : length (records pools) < 2 ^ 28
  pub apart : AllPairs (λ p q. p.name ≢ q.name) pools
  pub own : (pool : NamePool) → Contains pools pool → (pkg : PkgRecord) → Contains pool.recs pkg → lowered pkg.name ≡ pool.name

-- the variable of the first record of each pool
abbrev pub starts_of : ℕ → List NamePool → List ℕ
starts_of first [] = []
starts_of first (pool ∷ rest) = first ∷ starts_of (first + length pool.recs) rest

-- the split is that of this specification
pub record IsSplitOf (pools : List NamePool) (spec : Parts) (split : Split) : Type 0 where
  pub text : spec_read (trimmed split.text) ≡ Ok spec
  pub named : split.named.items ≡ some_named pools spec
  pub barred : split.barred.items ≡ each_barred pools spec

-- the split is right for the specification whose normal form it has
abbrev pub IsSplit : List NamePool → Split → Type 0
IsSplit pools split = (spec : Parts) × IsSplitOf pools spec split

-- all that is kept is right
pub record IsKnown (pools : List NamePool) (known : Known) : Type 0 where
  pub starts : known.starts.items ≡ starts_of 1 pools
  pub splits : All (IsSplit pools) known.splits.items

-- the split at this place is that of this specification
abbrev pub HasSplit : List NamePool → Parts → Known → ℕ → Type 0
HasSplit pools spec known at = (at < length known.splits.items) × ((d : Split) → IsSplitOf pools spec (slice_index_or known.splits.items at d))
