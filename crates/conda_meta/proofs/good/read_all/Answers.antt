use Rattle.std.proofs.lemmas.Result.{err_from_is_err_and}
use Rattle.conda_meta.specs.Reading.{good_read}
use Rattle.conda_meta.proofs.LoopLemmas.{next, stop}
use Rattle.conda_meta.proofs.good.read_all.Goals as goal

pub loop-element-preserved : goal.loop-element-preserved
loop-element-preserved c =
    next good_read _ _ _ _ _ _ c.loop-element-test.true c.element-item.is c.in_ok-good.ensures c.in_ok-push.ensures.items c.loop-element.invariant

pub returns-in_err-good : goal.returns-in_err-good
returns-in_err-good c =
    let p = err_from_is_err_and c.from_residual-in_err-good.result c.from_residual-in_err-good.ensures.1 in
    rw (p.1, p.2) (stop good_read _ _ _ _ _ c.loop-element-test.true c.element-item.is c.in_err-good.ensures c.loop-element.invariant)
