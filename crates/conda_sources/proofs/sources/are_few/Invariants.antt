use Rattle.std.proofs.Common.{◌≡◌, ◌+◌, length, take}
use Rattle.conda_index.specs.Pools.{given}
use Rattle.conda_sources.proofs.sources.are_few.Given as goal

abbrev pub invariant-loop-part : goal.invariant-loop-part
invariant-loop-part l = length (given (take l.part-index l.parts)) + l.virtuals ≡ l.count
