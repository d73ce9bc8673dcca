-- Which packages can be chosen together: after conda's resolve.py, with pinned specifications as conda has them. It is a test of a
-- finished set, and knows no clause.
use Rattle.std.specs.Prelude.{◌≡◌, ◌≢◌, true, List}
use Rattle.std.specs.List.{AllPairs, Contains}
use Rattle.conda_spec.specs.Parts.{Parts}
use Rattle.conda_record.specs.declared.pkg_record.PkgRecord.{PkgRecord}
use Rattle.conda_record.specs.declared.pool.NamePool.{NamePool}
use Rattle.conda_encode.specs.Matching.{is_of_name, lowered, names}
use Rattle.conda_encode.specs.declared.asked.Asked.{Asked}
use Rattle.conda_encode.specs.declared.asked.AskKind.TheVariants.{Pinned, Wanted}

-- the names are other ones, their letters lowered
abbrev pub HaveOtherNames : PkgRecord → PkgRecord → Type 0
HaveOtherNames m n = lowered m.name ≢ lowered n.name

-- the record is of the pool of its name
abbrev pub IsOfItsPool : List NamePool → PkgRecord → Type 0
IsOfItsPool pools m = (pool : NamePool) × Contains pools pool × (pool.name ≡ lowered m.name) × Contains pool.recs m

-- a member is one that the specification names
abbrev pub IsMet : List PkgRecord → Parts → Type 0
IsMet set spec = (m : PkgRecord) × Contains set m × (names spec m ≡ true)

-- the member, if it is of the specification's name, is one that it names
abbrev pub IsBound : Parts → PkgRecord → Type 0
IsBound spec m = is_of_name spec m ≡ true → names spec m ≡ true

-- the item is wanted, or pinned, and asks for this
abbrev pub Wants : List Asked → Parts → Type 0
Wants items spec = (item : Asked) × Contains items item × (item.kind ≡ Wanted) × (item.spec ≡ spec)

abbrev pub Pins : List Asked → Parts → Type 0
Pins items spec = (item : Asked) × Contains items item × (item.kind ≡ Pinned) × (item.spec ≡ spec)

-- the member is one that a wanted item names, or that a dependency of a member names which is reached itself
pub data IsReached (items : List Asked) (set : List PkgRecord) : PkgRecord → Type 0 where
  wanted : (spec : Parts) (m : PkgRecord) → Wants items spec → Contains set m → names spec m ≡ true → IsReached items set m
  needed : (n : PkgRecord) (spec : Parts) (m : PkgRecord) → IsReached items set n → Contains n.depends spec
      → Contains set m → names spec m ≡ true → IsReached items set m

-- ---- the rules

-- each member is of its name's pool
abbrev pub AreOfTheirPools : List PkgRecord → List NamePool → Type 0
AreOfTheirPools set pools = (m : PkgRecord) → Contains set m → IsOfItsPool pools m

-- no name stands twice
abbrev pub NoNameTwice : List PkgRecord → Type 0
NoNameTwice set = AllPairs HaveOtherNames set

-- each wanted item is met
abbrev pub WantedAreMet : List PkgRecord → List Asked → Type 0
WantedAreMet set items = (spec : Parts) → Wants items spec → IsMet set spec

-- each dependency of a member is met
abbrev pub DependsAreMet : List PkgRecord → Type 0
DependsAreMet set = (m : PkgRecord) → Contains set m → (spec : Parts) → Contains m.depends spec → IsMet set spec

-- each member whose name a pinned item has is one that this item names
abbrev pub PinsBind : List PkgRecord → List Asked → Type 0
PinsBind set items = (spec : Parts) → Pins items spec → (m : PkgRecord) → Contains set m → IsBound spec m

-- no member breaks a `constrains` entry of another one
abbrev pub ConstrainsHold : List PkgRecord → Type 0
ConstrainsHold set =
    (m n : PkgRecord) → Contains set m → Contains set n → HaveOtherNames m n
    → (spec : Parts) → Contains m.constrains spec → IsBound spec n

-- each member is reached
abbrev pub AreReached : List PkgRecord → List Asked → Type 0
AreReached set items = (m : PkgRecord) → Contains set m → IsReached items set m

-- the set is a solution of the items over the pools
pub record IsSolution (set : List PkgRecord) (items : List Asked) (pools : List NamePool) : Type 0 where
  pub of_pools : AreOfTheirPools set pools
  pub apart : NoNameTwice set
  pub wanted : WantedAreMet set items
  pub depends : DependsAreMet set
  pub pinned : PinsBind set items
  pub constrains : ConstrainsHold set
  pub reached : AreReached set items
