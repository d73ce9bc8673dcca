use Rattle.std.proofs.lemmas.Result.{err_from_is_err_and}
use Rattle.conda_meta.specs.Reading.{linked_read}
use Rattle.conda_meta.proofs.LoopLemmas.{next, stop}
use Rattle.conda_meta.proofs.revision.read_all.Goals as goal

pub loop-element-preserved : goal.loop-element-preserved
loop-element-preserved c =
    next linked_read _ _ _ _ _ _ c.loop-element-test.true c.element-item.is c.in_ok-package.ensures c.in_ok-push.ensures.ok c.loop-element.invariant

pub returns-in_err-package : goal.returns-in_err-package
returns-in_err-package c =
    let p = err_from_is_err_and c.from_residual-in_err-package.result c.from_residual-in_err-package.ensures.1 in
    rw (p.1, p.2) (stop linked_read _ _ _ _ _ c.loop-element-test.true c.element-item.is c.in_err-package.ensures c.loop-element.invariant)
