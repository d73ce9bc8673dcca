use Rattle.conda_encode.proofs.Reaching.{each_reaches, place_fits, unmarked}
use Rattle.conda_encode.proofs.reach.mark_needs.Goals as goal

pub bounds-marks-at : goal.bounds-marks-at
bounds-marks-at c = place_fits c.args.pools.now c.args.at _ c.args.rec.now c.requires.record c.requires.count

pub returns-then-not-marks-at-clause-marked : goal.returns-then-not-marks-at-clause-marked
returns-then-not-marks-at-clause-marked c = λ h. absurd (unmarked c.args.marks.now c.args.at c.if-not-marks-at.true h)

pub mark_each-requires-clause-reaches : goal.mark_each-requires-clause-reaches
mark_each-requires-clause-reaches c =
    each_reaches c.args.pools.now c.args.items.now c.args.model.now c.args.marks.now c.args.at c.args.rec.now c.as_slice.result.now c.as_slice.ensures c.requires.sound c.requires.record
    c.if-not-marks-at.false
