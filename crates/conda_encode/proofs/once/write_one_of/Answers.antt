use Rattle.std.proofs.Common.{◌≡◌, ◌<◌, ◌+◌, arith, drop, length}
use Rattle.std.proofs.lemmas.List.{length-drop}
use Rattle.conda_encode.specs.Clauses.{one_at}
use Rattle.conda_encode.proofs.Bounds.{pick}
use Rattle.conda_encode.proofs.Walks.{flat_more}
use Rattle.conda_encode.proofs.once.write_one_of.Goals as goal

pub loop-at-preserved : goal.loop-at-preserved
loop-at-preserved c =
    let recs = c.args.recs.now in
    let lt : c.loop-at.at < length (drop 1 recs) = omega (arith, c.loop-at-test.true, c.saturating_sub-at-end.ensures, length-drop 1 recs) in
    let x = pick (drop 1 recs) c.loop-at.at lt in
    let e : c.loop-at.at ≡ 0 + c.loop-at.at = omega arith in
    flat_more (one_at c.args.name.now c.args.number c.args.helper (length recs)) 0 (drop 1 recs) c.loop-at.at c.loop-at.at x.0 _ _ _ lt e x.1
    c.loop-at.invariant c.in_ok-write_one_step.ensures
