-- so many new nodes are put
use Rattle.std.proofs.Common.{◌≡◌, ◌≤◌}
use Rattle.conda_lane.specs.Calls.{Leads}
use Rattle.conda_lane.specs.Steps.{IsPut, Walk}
use Rattle.conda_lane.specs.Supplies.{Keeps}
use Rattle.conda_lane.proofs.WalkLemmas.{Plain}
use Rattle.conda_lane.proofs.putting.put_in.Given as goal

abbrev pub invariant-loop-change : goal.invariant-loop-change
invariant-loop-change g l = record {
  told : Leads (Walk (Plain (IsPut (g.S.Supply.state l.initial.supply).kept)) l.change-index l.changes) (g.L.Lane.told l.initial.lane) (g.L.Lane.told l.lane);
  share : g.L.Lane.share l.lane ≡ g.L.Lane.share l.initial.lane;
  later : g.L.Lane.faults l.initial.lane ≤ g.L.Lane.faults l.lane;
  keeps : Keeps (g.S.Supply.state l.initial.supply) (g.S.Supply.state l.supply);
}
