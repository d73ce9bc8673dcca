-- What undoing changes makes of a tree: a function of the tree alone. This project's own.
use Rattle.std.specs.Prelude.{◌≡◌, Bool, false, true, if◌then◌else◌, List, [], ◌∷◌, Option, Some, None}
use Rattle.std.specs.List.{AllByRecursion}
use Rattle.std.specs.FinMap as map
use Rattle.conda_path.specs.declared.values.Node.{Node}
use Rattle.conda_device.specs.Tree.{Tree}
use Rattle.conda_lane.specs.Changes.{Stands, at}
use Rattle.conda_lane.specs.declared.change.Change.{Change}

-- ---- at a change's two paths

-- What undoing leaves at the path, by whether there is an old node and by what stood at the path and in the trash: nothing
-- where there is no old node, else the node in the trash; where none is there, what stood at the path.
abbrev pub undone_path : Bool → Option Node → Option Node → Option Node
undone_path false path trash = None
undone_path true path None = path
undone_path true path (Some node) = Some node

-- what it leaves in the trash: of an old node nothing
abbrev pub undone_trash : Bool → Option Node → Option Node
undone_trash false trash = trash
undone_trash true trash = None

pub record IsUndoneAt (before now : Tree) (change : Change) : Type 0 where
  pub path : at now change.path ≡ undone_path change.old (at before change.path) (at before change.trash)
  pub trash : at now change.trash ≡ undone_trash change.old (at before change.trash)

-- ---- the whole tree

-- all changes of a tree are undone, and all else in it stays
abbrev pub IsUndone : Tree → Tree → List Change → Type 0
IsUndone now before changes = Stands (IsUndoneAt before now) before now changes

-- the same as a function, one change after another

-- a node that is in the trash goes back to the path
abbrev pub back : Tree → Change → Option Node → Tree
back tree change None = tree
back tree change (Some node) = map.insert (map.remove tree change.trash) change.path node

abbrev pub undone_one : Tree → Change → Tree
undone_one tree change = if change.old then back tree change (at tree change.trash) else map.remove tree change.path

abbrev pub undone : Tree → List Change → Tree
undone tree [] = tree
undone tree (change ∷ rest) = undone_one (undone tree rest) change

-- ---- the halves of undoing

-- The first half, at a change's path: the new node is erased. It is there where there was no old node, or where the old one
-- is in the trash.
abbrev pub cleared : Bool → Option Node → Option Node → Option Node
cleared false path trash = None
cleared true path None = path
cleared true path (Some node) = None

pub record IsClearedAt (before now : Tree) (change : Change) : Type 0 where
  pub path : at now change.path ≡ cleared change.old (at before change.path) (at before change.trash)
  pub trash : at now change.trash ≡ at before change.trash

-- the new nodes of all changes are erased
abbrev pub IsCleared : Tree → Tree → List Change → Type 0
IsCleared now before changes = Stands (IsClearedAt before now) before now changes

-- the second half, at a change's path: the old node is moved back, where it is in the trash
abbrev pub moved_back : Bool → Option Node → Option Node → Option Node
moved_back false path trash = path
moved_back true path None = path
moved_back true path (Some node) = Some node

pub record IsMovedBackAt (before now : Tree) (change : Change) : Type 0 where
  pub path : at now change.path ≡ moved_back change.old (at before change.path) (at before change.trash)
  pub trash : at now change.trash ≡ undone_trash change.old (at before change.trash)

-- the old nodes of all changes are moved back
abbrev pub IsMovedBack : Tree → Tree → List Change → Type 0
IsMovedBack now before changes = Stands (IsMovedBackAt before now) before now changes

-- a change with an old node has no node both at its path and in the trash
abbrev pub HasOneNode : Bool → Option Node → Option Node → Type 0
HasOneNode false path trash = Unit {0}
HasOneNode true path None = Unit {0}
HasOneNode true path (Some node) = path ≡ None

-- so that the old nodes of all changes can be moved back
abbrev pub CanMoveBack : Tree → List Change → Type 0
CanMoveBack tree changes = AllByRecursion (λ change. HasOneNode change.old (at tree change.path) (at tree change.trash)) changes
