-- Changes of a tree, and what stands between their start and their end. The state of a change is a matter of its own two
-- paths. This project's own.
use Rattle.std.specs.Prelude.{◌≡◌, ◌⊎◌, ℕ, Bool, false, List, [], ◌∷◌, length, Option, Some, None, IfSome, is_some}
use Rattle.std.specs.List.{AllByRecursion, IsDistinct, list_any}
use Rattle.std.specs.Str.{bytes_eq}
use Rattle.std.specs.FinMap as map
use Rattle.sha2.specs.Sha256.{sha256}
use Rattle.conda_path.specs.declared.values.Good.{Good}
use Rattle.conda_path.specs.declared.values.Node.{Node}
use Rattle.conda_device.specs.Lanes.{IsInShare, Share}
use Rattle.conda_device.specs.Tree.{Tree}
use Rattle.conda_lane.specs.declared.change.Change.{Change}

-- what stands at a path
abbrev pub at : Tree → List ℕ → Option Node
at tree path = map.get tree path

-- ---- the paths of changes

-- the path and the trash path of each
abbrev pub names : List Change → List (List ℕ)
names [] = []
names (change ∷ rest) = change.path ∷ change.trash ∷ names rest

-- one of them names the path
abbrev pub is_named : List Change → List ℕ → Bool
is_named changes path = list_any (bytes_eq path) (names changes)

-- no path is named twice
abbrev pub AreApart : List Change → Type 0
AreApart changes = IsDistinct bytes_eq (names changes)

-- changes of one lane: no path is named twice, and each lies in its share
pub record AreChanges (share : Share) (changes : List Change) : Type 0 where
  pub apart : AreApart changes
  pub inside : AllByRecursion (IsInShare share) (names changes)

-- ---- where they start

-- `old` says whether a node stands at the path, and nothing stands at the trash path
pub record IsReady (start : Tree) (change : Change) : Type 0 where
  pub old : is_some (at start change.path) ≡ change.old
  pub trash : at start change.trash ≡ None

-- a tree in which these changes may start
abbrev pub IsStart : Tree → List Change → Type 0
IsStart start changes = AllByRecursion (IsReady start) changes

-- the old node is in the trash, and nothing stands at the path
pub record IsMovedOut (tree : Tree) (change : Change) : Type 0 where
  pub path : at tree change.path ≡ None
  pub trash : is_some (at tree change.trash) ≡ change.old

-- a tree from which all old nodes are moved
abbrev pub AreMovedOut : Tree → List Change → Type 0
AreMovedOut tree changes = AllByRecursion (IsMovedOut tree) changes

-- ---- the new nodes

-- a node of this kind, size and digest
pub record IsOf (good : Good) (node : Node) : Type 0 where
  pub kind : node.kind ≡ good.kind
  pub size : length node.bytes ≡ good.size
  pub digest : sha256 node.bytes ≡ good.digest.bytes

-- What may stand at the path in the end: nothing where there is no new node, else any node of its kind, size and digest,
-- and the one that is kept for the path, if one is.
abbrev pub IsNew : Tree → List ℕ → Option Good → Option Node → Type 0
IsNew kept path None found = found ≡ None
IsNew kept path (Some good) None = ⊥
IsNew kept path (Some good) (Some node) = IsOf good node × IfSome (at kept path) (λ keeps. node ≡ keeps)

-- ---- the states of a change

-- all is as at the start
pub record IsUntouched (start tree : Tree) (change : Change) : Type 0 where
  pub path : at tree change.path ≡ at start change.path
  pub trash : at tree change.trash ≡ None

-- the old node is in the trash; a change without one is untouched
pub record IsMoved (start tree : Tree) (change : Change) : Type 0 where
  pub path : at tree change.path ≡ None
  pub trash : at tree change.trash ≡ at start change.path

-- the new node is at the path, and the old one in the trash
pub record IsFinished (kept start tree : Tree) (change : Change) : Type 0 where
  pub path : IsNew kept change.path change.new (at tree change.path)
  pub trash : at tree change.trash ≡ at start change.path

-- the new node is at the path, and the trash is empty
pub record IsDone (kept tree : Tree) (change : Change) : Type 0 where
  pub path : IsNew kept change.path change.new (at tree change.path)
  pub trash : at tree change.trash ≡ None

-- ---- the states of a tree

-- each change is in such a state, and at every other path all is as at the start
pub record Stands (State : Change → Type 0) (start tree : Tree) (changes : List Change) : Type 0 where
  pub each : AllByRecursion State changes
  pub others : (path : List ℕ) → is_named changes path ≡ false → at tree path ≡ at start path

-- all old nodes are moved
abbrev pub AllMoved : Tree → Tree → List Change → Type 0
AllMoved tree start changes = Stands (IsMoved start tree) start tree changes

-- all changes are finished
abbrev pub AllFinished : Tree → Tree → Tree → List Change → Type 0
AllFinished kept tree start changes = Stands (IsFinished kept start tree) start tree changes

-- the edited tree: without the old nodes and with the new ones
abbrev pub IsEdit : Tree → Tree → Tree → List Change → Type 0
IsEdit kept tree start changes = Stands (IsDone kept tree) start tree changes

-- each change is untouched, moved or finished
abbrev pub IsBetween : Tree → Tree → Tree → Change → Type 0
IsBetween kept start tree change = IsUntouched start tree change ⊎ IsMoved start tree change ⊎ IsFinished kept start tree change

abbrev pub Between : Tree → Tree → Tree → List Change → Type 0
Between kept tree start changes = Stands (IsBetween kept start tree) start tree changes
