use Rattle.std.proofs.Common.{◌≡◌, ◌+◌, ◌++◌, length, map, take}
use Rattle.std.specs.List.{range_with_len}
use Rattle.conda_explain.specs.Renumbered.{number_of}
use Rattle.conda_explain.proofs.Keys.{lists}
use Rattle.conda_explain.proofs.renumbering.new_numbers.Given as goal

abbrev pub invariant-loop-input : goal.invariant-loop-input
invariant-loop-input l = l.numbers.items ≡ map (number_of (lists l.places.keys)) (take l.input-index l.log.inputs)

abbrev pub invariant-loop-at : goal.invariant-loop-at
invariant-loop-at l = l.numbers.items ≡ l.initial.numbers.items ++ range_with_len (length (lists l.places.keys) + 1) l.at
