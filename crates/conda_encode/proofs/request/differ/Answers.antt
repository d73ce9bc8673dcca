use Rattle.conda_encode.proofs.Conditions.{here_alone, none, step}
use Rattle.conda_encode.proofs.request.differ.Goals as goal

pub returns-then-not-is_alone : goal.returns-then-not-is_alone
returns-then-not-is_alone c =
    none c.is_alone.result
    (here_alone c.args.pools.now c.loop-pool.left.now c.in-Some.rest.now c.in-Some.pool.now c.in-Some.ensures.cases.0 c.loop-pool.invariant)
    c.is_alone.ensures c.if-not-is_alone.true

pub loop-pool-preserved : goal.loop-pool-preserved
loop-pool-preserved c =
    step c.args.pools.now c.loop-pool.left.now c.in-Some.rest.now c.in-Some.pool.now c.in-Some.ensures.cases.0 c.loop-pool.invariant
    (c.is_alone.ensures.0 c.if-not-is_alone.false)
