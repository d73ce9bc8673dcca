use Rattle.std.proofs.Common.{◌≡◌, drop, None}
use Rattle.conda_spec.specs.Reading.{item_end}
use Rattle.conda_spec.proofs.items.item_end.Given as goal

-- the answer for what is left is the answer for all
abbrev pub invariant-loop-at : goal.invariant-loop-at
invariant-loop-at l = item_end l.at l.quote (drop l.at l.text) ≡ item_end 0 None l.text
