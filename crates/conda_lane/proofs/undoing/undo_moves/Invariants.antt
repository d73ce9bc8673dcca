-- so many changes went through their step
use Rattle.std.proofs.Common.{◌≡◌, ◌≤◌}
use Rattle.conda_lane.specs.Calls.{Leads}
use Rattle.conda_lane.specs.Undo.{IsMovedBackAt}
use Rattle.conda_lane.specs.Steps.{Walk}
use Rattle.conda_lane.proofs.WalkLemmas.{Plain}
use Rattle.conda_lane.proofs.undoing.undo_moves.Given as goal

abbrev pub invariant-loop-change : goal.invariant-loop-change
invariant-loop-change g l = record {
  told : Leads (Walk (Plain IsMovedBackAt) l.change-index l.changes) (g.L.Lane.told l.initial.lane) (g.L.Lane.told l.lane);
  share : g.L.Lane.share l.lane ≡ g.L.Lane.share l.initial.lane;
  later : g.L.Lane.faults l.initial.lane ≤ g.L.Lane.faults l.lane;
}
