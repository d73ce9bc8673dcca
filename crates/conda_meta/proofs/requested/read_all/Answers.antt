use Rattle.std.proofs.lemmas.Result.{err_from_is_err_and}
use Rattle.conda_meta.specs.Reading.{requested_spec}
use Rattle.conda_meta.proofs.LoopLemmas.{next, stop}
use Rattle.conda_meta.proofs.requested.read_all.Goals as goal

pub loop-element-preserved : goal.loop-element-preserved
loop-element-preserved c =
    next requested_spec _ _ _ _ _ _ c.loop-element-test.true c.element-item.is c.in_ok-spec.ensures c.in_ok-push.ensures.ok c.loop-element.invariant

pub returns-in_err-spec : goal.returns-in_err-spec
returns-in_err-spec c =
    let p = err_from_is_err_and c.from_residual-in_err-spec.result c.from_residual-in_err-spec.ensures.1 in
    rw (p.1, p.2) (stop requested_spec _ _ _ _ _ c.loop-element-test.true c.element-item.is c.in_err-spec.ensures c.loop-element.invariant)
