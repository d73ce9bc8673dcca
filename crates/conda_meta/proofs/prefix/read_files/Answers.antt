use Rattle.std.proofs.lemmas.Result.{err_from_is_err_and}
use Rattle.conda_meta.specs.Reading.{file_read}
use Rattle.conda_meta.proofs.LoopLemmas.{next, stop}
use Rattle.conda_meta.proofs.prefix.read_files.Goals as goal

pub loop-element-preserved : goal.loop-element-preserved
loop-element-preserved c =
    next file_read _ _ _ _ _ _ c.loop-element-test.true c.element-item.is c.in_ok-path.ensures c.in_ok-push.ensures.items c.loop-element.invariant

pub returns-in_err-path : goal.returns-in_err-path
returns-in_err-path c =
    let p = err_from_is_err_and c.from_residual-in_err-path.result c.from_residual-in_err-path.ensures.1 in
    rw (p.1, p.2) (stop file_read _ _ _ _ _ c.loop-element-test.true c.element-item.is c.in_err-path.ensures c.loop-element.invariant)
