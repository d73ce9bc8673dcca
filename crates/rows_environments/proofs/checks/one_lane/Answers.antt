use Rattle.std.proofs.Common.{◌≡◌, ◌%◌, ℕ, List, [], ◌∷◌, ap, sym, ◌∙◌, arith}
use Rattle.std.specs.List.{AllByRecursion}
use Rattle.conda_path.specs.Lanes.{lane_number}
use Rattle.conda_device.specs.Lanes.{IsInShare, Share}
use Rattle.conda_lane.specs.Changes.{names}
use Rattle.rows_environments.proofs.checks.one_lane.Goals as goal

rest_of_one : (x : ℕ) → x % 1 ≡ 0
rest_of_one x = omega arith

-- every path lies in the only share
inside_one : (share : Share) → share.number ≡ 0 → share.lanes ≡ 1 → (paths : List (List ℕ)) → AllByRecursion (IsInShare share) paths
inside_one share number lanes [] = tt
inside_one share number lanes (path ∷ paths) =
    (ap (lane_number path) lanes ∙ rest_of_one _ ∙ sym number, inside_one share number lanes paths)

pub returns : goal.returns
returns c =
    let lane = c.args.lane.now in
    let share : Share = record { number = lane.number; lanes = lane.lanes; abilities = lane.abilities } in
    record { apart = c.requires.apart; inside = inside_one share c.requires.number c.requires.lanes (names c.args.changes.now) }
