use Rattle.std.proofs.lemmas.Result.{err_from_is_err_and}
use Rattle.conda_meta.specs.Reading.{unlinked_dist}
use Rattle.conda_meta.proofs.LoopLemmas.{next, stop}
use Rattle.conda_meta.proofs.revision.read_dists.Goals as goal

pub loop-element-preserved : goal.loop-element-preserved
loop-element-preserved c =
    next unlinked_dist _ _ _ _ _ _ c.loop-element-test.true c.element-item.is c.in_ok-dist.ensures c.in_ok-push.ensures.ok c.loop-element.invariant

pub returns-in_err-dist : goal.returns-in_err-dist
returns-in_err-dist c =
    let p = err_from_is_err_and c.from_residual-in_err-dist.result c.from_residual-in_err-dist.ensures.1 in
    rw (p.1, p.2) (stop unlinked_dist _ _ _ _ _ c.loop-element-test.true c.element-item.is c.in_err-dist.ensures c.loop-element.invariant)
