use Rattle.std.proofs.Common.{◌≡◌, ◌<◌, ◌^◌, length, take}
use Rattle.conda_encode.specs.Variables.{records}
use Rattle.conda_encode.proofs.request.are_few.Given as goal

abbrev pub invariant-loop-pool : goal.invariant-loop-pool
invariant-loop-pool l = (length (records (take l.pool-index l.pools)) ≡ l.count) × (l.count < 2 ^ 28)
