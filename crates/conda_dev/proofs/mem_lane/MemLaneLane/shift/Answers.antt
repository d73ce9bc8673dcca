use Rattle.std.proofs.Common.{◌≡◌, List, ℕ, IsSome, is_some, ap, sym, ◌∙◌}
use Rattle.std.specs.FinMap as map
use Rattle.conda_path.specs.Lanes.{lane_number}
use Rattle.conda_dev.proofs.ShareLemmas.{inside_moved}
use Rattle.conda_dev.proofs.mem_lane.MemLaneLane.shift.Goals as goal

pub invariant_of-self-in-Ok : goal.invariant_of-self-in-Ok
invariant_of-self-in-Ok c =
    let lane = c.args.self.now in
    record {
      in_share = λ q found.
          inside_moved (λ p. lane_number p lane.lanes ≡ lane.number) lane.tree lane.in_share c.args.from.now c.args.to.now c.requires.free.0 c.requires.to q (sym (ap (λ tree. is_some (map.get tree q)) c.in-Ok.ensures.ok) ∙ found);
    }
