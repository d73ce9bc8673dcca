use Rattle.std.proofs.Common.{◌≡◌, ◌+◌, drop}
use Rattle.std.specs.List.{position_or_len}
use Rattle.conda_spec.specs.Parts.{ends_name}
use Rattle.conda_spec.proofs.head.name_len.Given as goal

-- what is counted, with what is left
abbrev pub invariant-loop-at : goal.invariant-loop-at
invariant-loop-at l = l.at + position_or_len ends_name (drop l.at l.text) ≡ position_or_len ends_name l.text
