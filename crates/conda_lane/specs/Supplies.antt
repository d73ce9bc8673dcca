-- What contracts see of a supply of new nodes, and what each of its calls keeps. This project's own.
use Rattle.std.specs.Prelude.{◌≡◌, ◌⊎◌, ℕ, ◌≤◌, List, ◌++◌, All, Contains, length, slice_get, Option, Some, None, IfSome, IsSome, IsSomeAnd, option_map}
use Rattle.std.specs.List.{AllByRecursion}
use Rattle.conda_path.specs.declared.slot.SlotKey.{SlotKey}
use Rattle.conda_path.specs.declared.values.Digest.{Digest}
use Rattle.conda_path.specs.declared.values.Good.{Good}
use Rattle.conda_path.specs.declared.values.Node.{Node}
use Rattle.conda_device.specs.Channels.{Files}
use Rattle.conda_device.specs.Fault.{Rose}
use Rattle.conda_device.specs.Stores.{StoreState}
use Rattle.conda_device.specs.Tree.{Tree}
use Rattle.conda_checked.specs.Lacks.{stored_path}
use Rattle.conda_checked.specs.Reads.{check_of}
use Rattle.conda_checked.specs.declared.lack.Lack.{Lack}
use Rattle.conda_checked.specs.declared.lack.Lacks.{Lacks}
use Rattle.conda_lane.specs.Changes.{IsOf, at}
use Rattle.conda_lane.specs.declared.change.Change.{Change}
use Rattle.conda_lane.specs.declared.supply.SupplyErr.{SupplyErr}
use Rattle.conda_lane.specs.declared.supply.SupplyErr.TheVariants as supply
use Rattle.conda_lane.specs.declared.supply.Cause.{Cause}
use Rattle.conda_lane.specs.declared.supply.Cause.TheVariants as causes

-- ---- the state

-- a supply's handle on a channel: the channel's name, the files and the asked paths that it tells, and what it counts
pub record ChanHandle : Type 0 where
  pub name : List ℕ
  pub files : Option Files
  pub asked : Option (List (List ℕ))
  pub faults : ℕ
  pub lacks : Lacks

-- its handle on the cache: what it was asked to change and read last, where it tells that, and what it counts
pub record StoreHandle : Type 0 where
  pub told : Option StoreState
  pub faults : ℕ
  pub lacks : Lacks

-- a file that it may read, of the handle at this place: in a channel, and in the cache
pub record ChanFile : Type 0 where
  pub handle : ℕ
  pub path : List ℕ
  pub size : ℕ
  pub digest : Digest

pub record StoreFile : Type 0 where
  pub handle : ℕ
  pub key : SlotKey
  pub path : List ℕ
  pub size : ℕ
  pub digest : Digest

-- The goods that a supply was made with, the nodes that it keeps for paths of them, its handles, and the files that it may read.
pub record SupplyState : Type 0 where
  pub goods : List Good
  pub kept : Tree
  pub chans : List ChanHandle
  pub stores : List StoreHandle
  pub chan_files : List ChanFile
  pub store_files : List StoreFile

-- each kept node is of the kind, size and digest of its path's good
abbrev pub KeepsGood : SupplyState → Type 0
KeepsGood state = (node : Node) (good : Good) → Contains state.goods good → at state.kept good.path ≡ Some node → IsOf good node

-- ---- what is given

-- the node is of each good of the path, and the one that is kept for the path, if one is
pub record IsGiven (state : SupplyState) (path : List ℕ) (node : Node) : Type 0 where
  pub good : (good : Good) → Contains state.goods good → good.path ≡ path → IsOf good node
  pub kept : IfSome (at state.kept path) (λ keeps. node ≡ keeps)

-- each new good of the changes is of the change's path, and among the goods
abbrev pub HasGood : List Good → List ℕ → Option Good → Type 0
HasGood goods path None = Unit {0}
HasGood goods path (Some good) = (good.path ≡ path) × Contains goods good

abbrev pub AreGoodsOf : List Good → List Change → Type 0
AreGoodsOf goods changes = AllByRecursion (λ change. HasGood goods change.path change.new) changes

-- ---- what each call keeps

-- what was asked grew only by paths of these
abbrev pub AskedOnly : (List ℕ → Type 0) → Option (List (List ℕ)) → Option (List (List ℕ)) → Type 0
AskedOnly P None None = Unit {0}
AskedOnly P None (Some now) = ⊥
AskedOnly P (Some before) None = ⊥
AskedOnly P (Some before) (Some now) = (more : List (List ℕ)) × (now ≡ before ++ more) × All P more

-- the counts have not fallen, and the last lack is as it was or one of these
pub record KeepsLacks (P : Lack → Type 0) (before now : Lacks) : Type 0 where
  pub absents : before.absents ≤ now.absents
  pub mismatches : before.mismatches ≤ now.mismatches
  pub last : (now.last ≡ before.last) ⊎ IsSomeAnd now.last P

-- the lack is of this path, size and digest
abbrev pub IsLackOf : List ℕ → ℕ → Digest → Lack → Type 0
IsLackOf path size digest lack = (lack.path ≡ path) × (lack.want ≡ Some (size, digest))

-- a path, or a lack, of a file that the supply may read by this handle
abbrev pub IsChanPath : List ChanFile → ℕ → List ℕ → Type 0
IsChanPath files place path = (file : ChanFile) × Contains files file × (file.handle ≡ place) × (file.path ≡ path)

abbrev pub IsChanLack : List ChanFile → ℕ → Lack → Type 0
IsChanLack files place lack = (file : ChanFile) × Contains files file × (file.handle ≡ place) × IsLackOf file.path file.size file.digest lack

abbrev pub IsStoreLack : List StoreFile → ℕ → Lack → Type 0
IsStoreLack files place lack = (file : StoreFile) × Contains files file × (file.handle ≡ place) × IsLackOf (stored_path file.key file.path) file.size file.digest lack

-- name and told files stay, only such files are read, and no count falls
pub record KeepsChan (files : List ChanFile) (place : ℕ) (before now : ChanHandle) : Type 0 where
  pub name : now.name ≡ before.name
  pub told : now.files ≡ before.files
  pub asked : AskedOnly (IsChanPath files place) before.asked now.asked
  pub faults : before.faults ≤ now.faults
  pub lacks : KeepsLacks (IsChanLack files place) before.lacks now.lacks

-- nothing is asked to be changed, and no count falls
pub record KeepsStore (files : List StoreFile) (place : ℕ) (before now : StoreHandle) : Type 0 where
  pub touched : option_map (λ told. told.touched) now.told ≡ option_map (λ told. told.touched) before.told
  pub faults : before.faults ≤ now.faults
  pub lacks : KeepsLacks (IsStoreLack files place) before.lacks now.lacks

-- two lists of handles are as long, and the two at each place are so
pub record EachHandle {H : Type 0} (R : ℕ → H → H → Type 0) (before now : List H) : Type 0 where
  pub count : length now ≡ length before
  pub each : (place : ℕ) (was is : H) → slice_get before place ≡ Some was → slice_get now place ≡ Some is → R place was is

-- the goods, what is kept and the files that may be read stay, and so does what each handle keeps
pub record Keeps (before now : SupplyState) : Type 0 where
  pub goods : now.goods ≡ before.goods
  pub kept : now.kept ≡ before.kept
  pub chan_files : now.chan_files ≡ before.chan_files
  pub store_files : now.store_files ≡ before.store_files
  pub chans : EachHandle (KeepsChan before.chan_files) before.chans now.chans
  pub stores : EachHandle (KeepsStore before.store_files) before.stores now.stores

-- ---- why nothing is given

-- at some place the two handles are so
pub record SomeHandle {H : Type 0} (R : ℕ → H → H → Type 0) (before now : List H) : Type 0 where
  pub place : ℕ
  pub was : H
  pub is : H
  pub before_it : slice_get before place ≡ Some was
  pub now_it : slice_get now place ≡ Some is
  pub holds : R place was is

-- what a lacked file came to: nothing was there, or other bytes
abbrev pub Absent : Option Digest → Type 0
Absent found = found ≡ None

abbrev pub Other : Option Digest → Type 0
Other found = IsSome found

-- the last read, where it is told, is of this file and came to what was found
abbrev pub GotFound : SlotKey → List ℕ → ℕ → Option Digest → Option (ℕ × Digest) → Type 0
GotFound key path size None got = got ≡ None
GotFound key path size (Some digest) got = IsSomeAnd got (λ pair. pair.1 ≡ digest)

pub record IsGot (file : StoreFile) (found : Option Digest) (told : StoreState) : Type 0 where
  pub read : Option (ℕ × Digest)
  pub got : told.got ≡ Some (check_of file.key file.path file.size read)
  pub came : GotFound file.key file.path file.size found read

-- a channel's file was lacked: the count rose, and it is the handle's last lack
pub record LacksChan (count : Lacks → ℕ) (Found : Option Digest → Type 0) (files : List ChanFile) (place : ℕ) (was now : ChanHandle) : Type 0 where
  pub rose : Rose (count was.lacks) (count now.lacks)
  pub last : IsSomeAnd now.lacks.last (λ lack. IsChanLack files place lack × Found lack.found)

-- the same of the cache's, whose last read it is
pub record LacksStore (count : Lacks → ℕ) (Found : Option Digest → Type 0) (files : List StoreFile) (place : ℕ) (was now : StoreHandle) : Type 0 where
  pub rose : Rose (count was.lacks) (count now.lacks)
  pub file : StoreFile
  pub one : Contains files file
  pub handle : file.handle ≡ place
  pub last : IsSomeAnd now.lacks.last (λ lack. IsLackOf (stored_path file.key file.path) file.size file.digest lack × Found lack.found × IfSome now.told (IsGot file lack.found))

-- a file of one of the handles was lacked
abbrev pub LacksFile : (Lacks → ℕ) → (Option Digest → Type 0) → SupplyState → SupplyState → Type 0
LacksFile count Found before now =
    SomeHandle (LacksChan count Found before.chan_files) before.chans now.chans
    ⊎ SomeHandle (LacksStore count Found before.store_files) before.stores now.stores

-- each error by its own count; want of memory is free
abbrev pub HasSupplyCause : SupplyErr → SupplyState → SupplyState → Type 0
HasSupplyCause supply.ChanFault before now = SomeHandle (λ place was is. Rose was.faults is.faults) before.chans now.chans
HasSupplyCause supply.StoreFault before now = SomeHandle (λ place was is. Rose was.faults is.faults) before.stores now.stores
HasSupplyCause supply.Missing before now = LacksFile (λ lacks. lacks.absents) Absent before now
HasSupplyCause supply.Damaged before now = LacksFile (λ lacks. lacks.mismatches) Other before now
HasSupplyCause supply.Memory before now = Unit {0}

-- the cause that an error of a supply is
abbrev pub cause_of : SupplyErr → Cause
cause_of supply.ChanFault = Cause.ChanFault
cause_of supply.StoreFault = Cause.StoreFault
cause_of supply.Missing = Cause.Missing
cause_of supply.Damaged = Cause.Damaged
cause_of supply.Memory = Cause.Memory

-- a lane's fault by the lane's count, and each other cause by the supply's
abbrev pub HasCauseOf : Cause → ℕ → ℕ → SupplyState → SupplyState → Type 0
HasCauseOf causes.LaneFault faults later before now = Rose faults later
HasCauseOf causes.ChanFault faults later before now = HasSupplyCause SupplyErr.ChanFault before now
HasCauseOf causes.StoreFault faults later before now = HasSupplyCause SupplyErr.StoreFault before now
HasCauseOf causes.Missing faults later before now = HasSupplyCause SupplyErr.Missing before now
HasCauseOf causes.Damaged faults later before now = HasSupplyCause SupplyErr.Damaged before now
HasCauseOf causes.Memory faults later before now = Unit {0}
