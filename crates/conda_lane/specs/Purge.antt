-- What erasing the trash of changes makes of a tree. This project's own.
use Rattle.std.specs.Prelude.{◌≡◌, ◌⊎◌, ℕ, ◌+◌, Bool, false, true, nat_eq, List, [], ◌∷◌, Option, None}
use Rattle.std.specs.List.{list_any}
use Rattle.conda_path.specs.declared.values.Node.{Node}
use Rattle.conda_device.specs.Tree.{Tree}
use Rattle.conda_lane.specs.Changes.{at, is_named}
use Rattle.conda_lane.specs.declared.change.Change.{Change}

-- each change with its number, where the first has the number `from`
abbrev pub Numbered : (ℕ → Change → Type 0) → ℕ → List Change → Type 0
Numbered P from [] = Unit {0}
Numbered P from (change ∷ rest) = P from change × Numbered P (from + 1) rest

-- these are the numbers of changes whose erasing failed, and this is one of them
abbrev pub IsLeft : List ℕ → ℕ → Type 0
IsLeft left number = list_any (nat_eq number) left ≡ true

-- the trash of a change with an old node is empty, or the change is left and its trash as before; other trash paths stay
abbrev pub IsPurgedTrash : List ℕ → ℕ → Bool → Option Node → Option Node → Type 0
IsPurgedTrash left number false before now = now ≡ before
IsPurgedTrash left number true before now = (now ≡ None) ⊎ (IsLeft left number × (now ≡ before))

pub record IsPurgedAt (left : List ℕ) (before now : Tree) (number : ℕ) (change : Change) : Type 0 where
  pub path : at now change.path ≡ at before change.path
  pub trash : IsPurgedTrash left number change.old (at before change.trash) (at now change.trash)

-- the trash of all changes but those that are left is erased, and all else stays
pub record IsPurged (left : List ℕ) (before now : Tree) (changes : List Change) : Type 0 where
  pub each : Numbered (IsPurgedAt left before now) 0 changes
  pub others : (path : List ℕ) → is_named changes path ≡ false → at now path ≡ at before path

-- ---- one change

-- an old node that is in the trash is erased
abbrev pub erased_trash : Bool → Option Node → Option Node
erased_trash false trash = trash
erased_trash true trash = None

pub record IsErased (before now : Tree) (change : Change) : Type 0 where
  pub path : at now change.path ≡ at before change.path
  pub trash : at now change.trash ≡ erased_trash change.old (at before change.trash)
