-- the count so far, with those of the lanes that are left, is the whole one
use Rattle.std.proofs.Common.{◌≡◌, ◌+◌, ◌-◌, ◌^◌, ◌<◌, min, sum_by, drop}
use Rattle.conda_dev.specs.Memory.{faults_of}
use Rattle.conda_dev.proofs.place.add_faults.Given as goal

abbrev pub invariant-loop-lane : goal.invariant-loop-lane
invariant-loop-lane l =
    (l.total < 2 ^ 64)
    × (min (l.total + sum_by faults_of (drop l.lane-index l.lanes)) (2 ^ 64 - 1)
    ≡ min (l.fn.faults.count + sum_by faults_of l.lanes) (2 ^ 64 - 1))
