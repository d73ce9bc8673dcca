use Rattle.std.proofs.Common.{◌<◌, ◌≤◌, arith, length}
use Rattle.conda_encode.specs.Variables.{records}
use Rattle.conda_encode.proofs.Lent.{lent_at, lent_length}
use Rattle.conda_encode.proofs.Reaching.{picked_all, picked_step}
use Rattle.conda_encode.proofs.cut.picked.Goals as goal

pub bounds-marks-at : goal.bounds-marks-at
bounds-marks-at c = omega (arith, c.loop-at-test.true, c.requires.count, lent_length c.args.recs.now (records c.args.pools.now) c.requires.recs)

pub loop-at-preserved : goal.loop-at-preserved
loop-at-preserved c =
    let recs = records c.args.pools.now in
    let lt : c.loop-at.at < length recs = omega (arith, c.loop-at-test.true, lent_length c.args.recs.now recs c.requires.recs) in
    picked_step recs c.args.marks.now c.loop-at.at c.index-recs-at.result.now _ _ lt (lent_at c.args.recs.now recs c.loop-at.at c.index-recs-at.result c.requires.recs c.loop-at-test.true c.index-recs-at.is)
    c.loop-at.invariant c.in_ok-put_marked.ensures

pub returns : goal.returns
returns c =
    let recs = records c.args.pools.now in
    let le : length recs ≤ c.loop-at.at = omega (arith, c.loop-at-test.false, lent_length c.args.recs.now recs c.requires.recs) in
    picked_all recs c.args.marks.now c.loop-at.at _ le c.loop-at.invariant
