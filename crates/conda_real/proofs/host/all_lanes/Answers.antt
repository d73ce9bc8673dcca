use Rattle.std.proofs.Common.{◌≡◌, subst, arith}
use Rattle.conda_device.specs.Lanes.{LinesUp, one_more_lane, all_lanes}
use Rattle.conda_real.specs.RealLanes.{faults_of, share_of}
use Rattle.conda_real.proofs.host.all_lanes.Goals as goal

pub loop-number-preserved : goal.loop-number-preserved
loop-number-preserved g c =
    let more = one_more_lane share_of faults_of c.loop-number.number c.args.lanes c.loop-number.made.items c.make.result c.loop-number.invariant c.make.ensures.number c.make.ensures.lanes c.make.ensures.unharmed in
    rw c.in_ok-push.ensures.items more

pub returns : goal.returns
returns g c =
    let e : c.loop-number.number ≡ c.args.lanes = omega arith in
    let lined = subst (λ n. LinesUp share_of faults_of n c.args.lanes c.loop-number.made.items) e c.loop-number.invariant in
    all_lanes share_of faults_of c.args.lanes c.loop-number.made.items lined
