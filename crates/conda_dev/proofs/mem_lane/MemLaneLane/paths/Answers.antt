use Rattle.std.proofs.Common.{◌≡◌, List, ℕ, All, subst, sym}
use Rattle.conda_base.specs.Texts.{Ascending}
use Rattle.conda_path.specs.Lanes.{lane_number}
use Rattle.conda_device.specs.Trees.{all_keys, ascending_keys}
use Rattle.conda_dev.proofs.mem_lane.MemLaneLane.paths.Goals as goal

pub returns-clause-ascending : goal.returns-clause-ascending
returns-clause-ascending c = subst Ascending (sym c.in_ok-paths.ensures) (ascending_keys c.args.self.now.tree)

pub returns-clause-inside : goal.returns-clause-inside
returns-clause-inside c =
    let lane = c.args.self.now in
    let P : List ℕ → Type 0 = λ p. lane_number p lane.lanes ≡ lane.number in
    subst (All P) (sym c.in_ok-paths.ensures) (all_keys P lane.tree lane.in_share)
