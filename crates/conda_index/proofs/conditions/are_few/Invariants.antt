use Rattle.std.proofs.Common.{◌≡◌, ◌+◌, length, take}
use Rattle.conda_index.specs.Pools.{given}
use Rattle.conda_index.proofs.conditions.are_few.Given as goal

abbrev pub invariant-loop-part : goal.invariant-loop-part
invariant-loop-part l = length (given (take l.part-index l.parts)) + length l.virtuals ≡ l.count
