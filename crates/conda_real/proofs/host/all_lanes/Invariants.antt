use Rattle.conda_device.specs.Lanes.{LinesUp}
use Rattle.conda_real.specs.RealLanes.{faults_of, share_of}
use Rattle.conda_real.proofs.host.all_lanes.Given as goal

abbrev pub invariant-loop-number : goal.invariant-loop-number
invariant-loop-number g l = LinesUp share_of faults_of l.number l.lanes l.made.items
