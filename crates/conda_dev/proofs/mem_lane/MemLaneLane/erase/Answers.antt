use Rattle.std.proofs.Common.{◌≡◌, List, ℕ, IsSome, is_some, ap, sym, ◌∙◌}
use Rattle.std.specs.FinMap as map
use Rattle.conda_path.specs.Lanes.{lane_number}
use Rattle.conda_dev.proofs.ShareLemmas.{inside_erased}
use Rattle.conda_dev.proofs.mem_lane.MemLaneLane.erase.Goals as goal

pub invariant_of-self-2 : goal.invariant_of-self-2
invariant_of-self-2 c =
    let lane = c.args.self.now in
    record {
      in_share = λ q found.
          inside_erased (λ p. lane_number p lane.lanes ≡ lane.number) lane.tree lane.in_share c.args.path.now q (sym (ap (λ tree. is_some (map.get tree q)) c.erase.ensures) ∙ found);
    }
