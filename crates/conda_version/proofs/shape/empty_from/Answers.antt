use Rattle.std.proofs.Common.{arith}
use Rattle.conda_version.proofs.PieceLemmas.{empty_at_place, empty_without}
use Rattle.conda_version.proofs.shape.empty_from.Goals as goal

pub returns-then-end-eq0 : goal.returns-then-end-eq0
returns-then-end-eq0 c =
    let cut = empty_at_place c.loop-end.at c.loop-end.left.now c.in-Some.end c.in-Some.ensures in
    grind (arith, cut, c.loop-end.invariant.1, c.if-end-eq0.true)

pub loop-end-preserved : goal.loop-end-preserved
loop-end-preserved c =
    let cut = empty_at_place c.loop-end.at c.loop-end.left.now c.in-Some.end c.in-Some.ensures in (
      omega (arith, c.split_at.ensures.back_len, c.loop-end.invariant.0),
      grind
          (arith, cut, c.split_at.ensures.back, c.loop-end.invariant.1, c.if-end-eq0.false),
    )

pub returns-else-is_empty : goal.returns-else-is_empty
returns-else-is_empty c =
    let cut = empty_without c.loop-end.at c.loop-end.left.now c.in_default.ensures in
    grind (arith, cut, c.loop-end.invariant.1, c.if-is_empty.ensures)
