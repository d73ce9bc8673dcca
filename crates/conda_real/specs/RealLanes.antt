-- What contracts see of a real lane. This project's own.
use Rattle.std.specs.Prelude.{ℕ}
use Rattle.conda_device.specs.Lanes.{Share, can_all}
use Rattle.conda_real.specs.declared.lane.RealLane.{RealLane}

abbrev pub share_of : {R F D : Type 0} → RealLane R F D → Share
share_of lane = record {
  number = lane.share.number;
  lanes = lane.share.lanes;
  abilities = can_all;
}

abbrev pub faults_of : {R F D : Type 0} → RealLane R F D → ℕ
faults_of lane = lane.faults.count
