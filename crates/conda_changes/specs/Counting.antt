-- How far the numbers of the trash are used, for each rest: the same as in `Trash`, change by change. This project's own.
use Rattle.std.specs.Prelude.{◌≡◌, ℕ, ◌^◌, ◌<◌, ◌≤◌, ◌%◌, ◌⊎◌, false, IsTrue, List, [], ◌∷◌, ◌++◌, map, unwrap_or}
use Rattle.std.specs.BTreeMap.{BTreeMap, get}
use Rattle.std.specs.List.{Contains}
use Rattle.std.specs.Ordering.{nat_cmp}
use Rattle.conda_path.specs.Lanes.{trash_path}
use Rattle.conda_lane.specs.declared.change.Change.{Change}
use Rattle.conda_changes.specs.Paths.{Texts, is_in}
use Rattle.conda_changes.specs.Trash.{IsOfPath, stride}

-- the paths in the trash of changes
abbrev pub trash_of : List Change → List (List ℕ)
trash_of changes = map (λ change. change.trash) changes

-- the number from which on none with this rest is used
abbrev pub next_at : BTreeMap ℕ ℕ → ℕ → ℕ
next_at nexts rest = unwrap_or (get nat_cmp nexts rest) rest

-- the numbers are the same but for whole strides
abbrev pub IsAlike : ℕ → ℕ → Type 0
IsAlike j k = j % stride ≡ k % stride

-- from one number on, all that are alike to it and below another such number are left over
pub record AreLeftOver (left : Texts) (number start k : ℕ) : Type 0 where
  pub from_start : start ≤ k
  pub alike : IsAlike k start
  pub left_over : (j : ℕ) → start ≤ j → j < k → IsAlike j start → IsTrue (is_in left (trash_path number j))

-- the first number from one on that is alike to it and isn't left over
pub record IsFirstFree (left : Texts) (number start k : ℕ) : Type 0 where
  pub passed : AreLeftOver left number start k
  pub free : is_in left (trash_path number k) ≡ false
  pub small : k < 2 ^ 64

-- the number is left over, or one of these paths has it
abbrev pub IsUsedSo : Texts → ℕ → List (List ℕ) → ℕ → Type 0
IsUsedSo left number used k = IsTrue (is_in left (trash_path number k)) ⊎ Contains used (trash_path number k)

-- Below its next number each rest's numbers are left over or used, and from there on none is used.
pub record AreCounted (left : Texts) (number : ℕ) (used : List (List ℕ)) (nexts : BTreeMap ℕ ℕ) : Type 0 where
  pub alike : (rest : ℕ) → rest < stride → IsAlike (next_at nexts rest) rest
  pub used_below : (rest k : ℕ) → rest < stride → IsAlike k rest → k < next_at nexts rest → IsUsedSo left number used k
  pub unused : (rest k : ℕ) → rest < stride → IsAlike k rest → next_at nexts rest ≤ k → k < 2 ^ 64 → ¬ Contains used (trash_path number k)

-- The path in the trash has the least number of the path that is neither left over nor used.
pub record IsFreeFor (left : Texts) (number : ℕ) (used : List (List ℕ)) (path trash : List ℕ) : Type 0 where
  pub k : ℕ
  pub stands : trash ≡ trash_path number k
  pub small : k < 2 ^ 64
  pub of_path : IsOfPath path k
  pub unused : ¬ IsUsedSo left number used k
  pub least : (j : ℕ) → j < k → IsOfPath path j → IsUsedSo left number used j

-- each change's path in the trash is free behind those used and those of the changes before it
abbrev pub AreFree : Texts → ℕ → List (List ℕ) → List Change → Type 0
AreFree left number used [] = Unit {0}
AreFree left number used (change ∷ rest) =
    IsFreeFor left number used change.path change.trash × AreFree left number (used ++ change.trash ∷ []) rest
