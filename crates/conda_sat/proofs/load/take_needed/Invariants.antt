use Rattle.std.proofs.Common.{◌≡◌}
use Rattle.conda_sat.proofs.load.take_needed.Given as goal

abbrev pub invariant-loop-at : goal.invariant-loop-at
invariant-loop-at l =
    (goal.iterator-loop-at).can_next l.at-iterator ×
    (goal.iterator-loop-at).is_finite l.at-iterator ×
    (l.ledger.inputs ≡ l.fn.ledger.inputs)
