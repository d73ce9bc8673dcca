use Rattle.std.proofs.Common.{List, ◌≡◌, ◌+◌, ap, subst, sym, arith}
use Rattle.conda_dev.specs.declared.mem_lane.MemLane.{MemLane}
use Rattle.conda_dev.proofs.GatherLemmas.{SoFar, ended, goes_on}
use Rattle.conda_dev.proofs.place.lent_lanes.Goals as goal

pub loop-number-preserved : goal.loop-number-preserved
loop-number-preserved c =
    let lane = c.in_ok-lent_lane.ensures in
    let more = goes_on c.loop-number.number c.args.lanes c.args.from.now c.loop-number.made.items c.in_ok-lent_lane.field-0 c.loop-number.invariant (ap (λ s. s.number) lane.share) (ap (λ s. s.lanes) lane.share) lane.unharmed lane.nodes in
    subst (SoFar (c.loop-number.number + 1) c.args.lanes c.args.from.now) (sym {A = List MemLane} c.in_ok-push.ensures.items) more

pub returns : goal.returns
returns c =
    let e : c.loop-number.number ≡ c.args.lanes = omega arith in
    let far = subst (λ n. SoFar n c.args.lanes c.args.from.now c.loop-number.made.items) e c.loop-number.invariant in
    let all = ended c.args.lanes c.args.from.now c.loop-number.made.items c.requires far in
    record { lanes = all.0; tree = all.1 }
