-- Where in the trash the old nodes of changes go. This project's own.
use Rattle.std.specs.Prelude.{◌≡◌, ℕ, ◌^◌, ◌<◌, ◌%◌, ◌⊎◌, List, sum}
use Rattle.std.specs.Cmp.Lexicographic.{slice_cmp}
use Rattle.std.specs.List.{Contains}
use Rattle.std.specs.Ordering.{nat_cmp}
use Rattle.std.specs.declared.cmp.Ordering.{Ordering}
use Rattle.conda_path.specs.Lanes.{IsTrash, trash_path}
use Rattle.conda_lane.specs.declared.change.Change.{Change}

-- The least number that 1 to 16 all divide, so that a number's rest says its lane for each count of lanes.
abbrev pub stride : ℕ
stride = 720720

-- the number leaves, divided so, what the sum of the path's bytes leaves
abbrev pub IsOfPath : List ℕ → ℕ → Type 0
IsOfPath path k = k % stride ≡ sum path % stride

-- a change of a lesser path has this path in the trash
abbrev pub IsTakenBefore : List Change → Change → List ℕ → Type 0
IsTakenBefore changes change path =
    (other : Change) × Contains changes other × (slice_cmp nat_cmp other.path change.path ≡ Ordering.Less) × (other.trash ≡ path)

-- the number is used before the change: it is left over in the trash, or a change of a lesser path has it
abbrev pub IsUsed : List (List ℕ) → ℕ → List Change → Change → ℕ → Type 0
IsUsed trash number changes change k =
    Contains trash (trash_path number k) ⊎ IsTakenBefore changes change (trash_path number k)

-- The change's path in the trash is `conda-meta/.trash/<number>.<k>` with the least k of its path that isn't used.
pub record HasTrash (trash : List (List ℕ)) (number : ℕ) (changes : List Change) (change : Change) : Type 0 where
  pub k : ℕ
  pub stands : change.trash ≡ trash_path number k
  pub small : k < 2 ^ 64
  pub of_path : IsOfPath change.path k
  pub unused : ¬ IsUsed trash number changes change k
  pub least : (j : ℕ) → j < k → IsOfPath change.path j → IsUsed trash number changes change j

-- the path is none of the trash
abbrev pub IsOutsideTrash : List ℕ → Type 0
IsOutsideTrash path = (n k : ℕ) → ¬ IsTrash path n k
