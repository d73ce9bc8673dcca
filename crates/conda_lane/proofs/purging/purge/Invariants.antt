-- so many old nodes are erased, but for those that are left
use Rattle.std.proofs.Common.{◌≡◌, vec_capacity}
use Rattle.conda_lane.proofs.PurgeLemmas.{Purging}
use Rattle.conda_lane.proofs.purging.purge.Given as goal

abbrev pub invariant-loop-number : goal.invariant-loop-number
invariant-loop-number g l = record {
  told : Purging l.initial.left.items (g.L.Lane.faults l.initial.lane) (g.L.Lane.told l.initial.lane) l.number l.changes l.left.items (g.L.Lane.faults l.lane) (g.L.Lane.told l.lane);
  share : g.L.Lane.share l.lane ≡ g.L.Lane.share l.initial.lane;
  capacity : vec_capacity l.left ≡ vec_capacity l.initial.left;
}
