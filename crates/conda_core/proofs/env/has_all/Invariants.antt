use Rattle.std.proofs.Common.{◌≡◌, drop}
use Rattle.std.specs.List.{list_all}
use Rattle.conda_core.specs.SlotRule.{has}
use Rattle.conda_core.proofs.env.has_all.Given as goal

abbrev pub invariant-loop-slot : goal.invariant-loop-slot
invariant-loop-slot l = list_all (λ i. has i l.pins) (drop l.slot-index l.set) ≡ list_all (λ i. has i l.pins) l.set
