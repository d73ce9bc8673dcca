-- One change after another: what a step does at the change's two paths, and how far a loop has come. This project's own.
use Rattle.std.specs.Prelude.{◌≡◌, ◌⊎◌, ℕ, zero, suc, ◌+◌, false, List, [], ◌∷◌, ◌++◌, Option, Some}
use Rattle.std.specs.Str.{bytes_eq}
use Rattle.conda_path.specs.declared.values.Node.{Node}
use Rattle.conda_device.specs.Fault.{Rose}
use Rattle.conda_device.specs.Lanes.{IsInShare, Share}
use Rattle.conda_device.specs.Tree.{Tree}
use Rattle.conda_lane.specs.Calls.{Leads}
use Rattle.conda_lane.specs.Changes.{IsNew, at, is_named}
use Rattle.conda_lane.specs.Purge.{IsErased}
use Rattle.conda_lane.specs.declared.change.Change.{Change}

-- a change of one lane
pub record IsChange (share : Share) (change : Change) : Type 0 where
  pub path : IsInShare share change.path
  pub trash : IsInShare share change.trash
  pub apart : bytes_eq change.path change.trash ≡ false

-- what a step makes of a change's two paths: of which number and change, and from which tree to which
abbrev pub Effect : Type 1
Effect = ℕ → Tree → Tree → Change → Type 0

-- both paths have what they had
pub record IsSame (before now : Tree) (change : Change) : Type 0 where
  pub path : at now change.path ≡ at before change.path
  pub trash : at now change.trash ≡ at before change.trash

-- the step had its effect on the change, and every other path has what it had
pub record Goes (effect : Tree → Tree → Change → Type 0) (change : Change) (before now : Tree) : Type 0 where
  pub own : effect before now change
  pub others : (path : List ℕ) → bytes_eq path change.path ≡ false → bytes_eq path change.trash ≡ false → at now path ≡ at before path

-- the node was put at the path
pub record IsPutNode (node : Node) (before now : Tree) (change : Change) : Type 0 where
  pub path : at now change.path ≡ Some node
  pub trash : at now change.trash ≡ at before change.trash

-- the path has what it may have in the end
pub record IsPut (kept before now : Tree) (change : Change) : Type 0 where
  pub path : IsNew kept change.path change.new (at now change.path)
  pub trash : at now change.trash ≡ at before change.trash

-- the effect was had on so many changes, of which the first has the number `from`, and the others are as they were
abbrev pub Stage : Effect → Tree → Tree → ℕ → ℕ → List Change → Type 0
Stage effect before now from done [] = Unit {0}
Stage effect before now from zero (change ∷ rest) = IsSame before now change × Stage effect before now (from + 1) zero rest
Stage effect before now from (suc done) (change ∷ rest) = effect from before now change × Stage effect before now (from + 1) done rest

-- the same, and every path that no change names has what it had
pub record Walk (effect : Effect) (done : ℕ) (changes : List Change) (before now : Tree) : Type 0 where
  pub each : Stage effect before now 0 done changes
  pub others : (path : List ℕ) → is_named changes path ≡ false → at now path ≡ at before path

-- the old node was erased, or that failed: then the change's number stands at the end of `left` and the count of faults rose
abbrev pub IsErasedOrLeft : ℕ → List ℕ → List ℕ → Change → Option Tree → Option Tree → ℕ → ℕ → Type 0
IsErasedOrLeft number before left change told now faults later =
    ((left ≡ before) × Leads (Goes IsErased change) told now)
    ⊎ ((left ≡ before ++ number ∷ []) × Rose faults later × ((now ≡ told) ⊎ Leads (Goes IsErased change) told now))
