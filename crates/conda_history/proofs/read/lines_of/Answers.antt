use Rattle.std.proofs.Common.{sym, ◌∙◌, arith}
use Rattle.conda_history.proofs.TurnLemmas.{ends, goes, stops}
use Rattle.conda_history.proofs.read.lines_of.Goals as goal

pub returns-in-Err : goal.returns-in-Err
returns-in-Err c =
    stops c.in-Err.e c.loop-line.number c.loop-line.reading c.loop-line.rest.now c.in-Some.line.now c.in-Some.after.now _
    c.in-Some.ensures.line c.loop-line.invariant.answer c.in-Err.ensures

pub loop-line-preserved : goal.loop-line-preserved
loop-line-preserved c = record {
  answer =
      sym (goes c.loop-line.number c.loop-line.reading c.in-Ok.next c.loop-line.rest.now c.in-Some.line.now c.in-Some.after.now
      c.in-Some.ensures.line c.in-Ok.ensures) ∙ c.loop-line.invariant.answer;
  count = omega (arith, c.in-Some.ensures.shorter);
}

pub returns : goal.returns
returns c =
    ends c.with_line-2.result c.loop-line.number c.loop-line.reading c.loop-line.rest.now _ c.in_default.ensures.line
    c.loop-line.invariant.answer c.with_line-2.ensures
