-- The changes of each lane. This project's own.
use Rattle.std.specs.Prelude.{◌≡◌, ℕ, List, [], filter, length, nat_eq, slice_get, unwrap_or}
use Rattle.std.specs.List.{AllByRecursion}
use Rattle.conda_base.specs.Texts.{Ascending}
use Rattle.conda_path.specs.Lanes.{lane_number}
use Rattle.conda_lane.specs.Changes.{names}
use Rattle.conda_lane.specs.declared.change.Change.{Change}
use Rattle.conda_changes.specs.Moves.{paths_of}

-- the changes of a lane
abbrev pub share_at : List (List Change) → ℕ → List Change
share_at shares lane = unwrap_or (slice_get shares lane) []

-- those of these changes whose path lies in the lane, in their order
abbrev pub changes_in : List Change → ℕ → ℕ → List Change
changes_in changes lanes lane = filter (λ change. nat_eq (lane_number change.path lanes) lane) changes

-- the changes of one lane: both paths of each lie in it, and they stand by path
pub record IsShare (lanes lane : ℕ) (share : List Change) : Type 0 where
  pub inside : AllByRecursion (λ path. lane_number path lanes ≡ lane) (names share)
  pub by_path : Ascending (paths_of share)

-- so many lanes, each with its own
pub record AreShares (lanes : ℕ) (shares : List (List Change)) : Type 0 where
  pub count : length shares ≡ lanes
  pub each : (lane : ℕ) → IsShare lanes lane (share_at shares lane)
