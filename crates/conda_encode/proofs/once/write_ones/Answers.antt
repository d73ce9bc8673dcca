use Rattle.std.proofs.Common.{arith}
use Rattle.conda_encode.proofs.Bounds.{pool_fits}
use Rattle.conda_encode.proofs.once.write_ones.Goals as goal

pub write_one_of-requires-clause-high : goal.write_one_of-requires-clause-high
write_one_of-requires-clause-high c =
    let f = pool_fits c.args.pools.now c.loop-pool.pool-index c.pool-item.result c.as_slice-recs.result.now c.args.first c.loop-pool.number c.loop-pool.helper c.requires.few c.requires.first
    c.loop-pool-test.true c.pool-item.is c.as_slice-recs.ensures c.loop-pool.invariant.number c.loop-pool.invariant.helper in
    omega (arith, f.number_fits)

pub write_one_of-requires-clause-high_helper : goal.write_one_of-requires-clause-high_helper
write_one_of-requires-clause-high_helper c =
    let f = pool_fits c.args.pools.now c.loop-pool.pool-index c.pool-item.result c.as_slice-recs.result.now c.args.first c.loop-pool.number c.loop-pool.helper c.requires.few c.requires.first
    c.loop-pool-test.true c.pool-item.is c.as_slice-recs.ensures c.loop-pool.invariant.number c.loop-pool.invariant.helper in
    omega (arith, f.helper_fits)

pub overflow_cast-number : goal.overflow_cast-number
overflow_cast-number c =
    let f = pool_fits c.args.pools.now c.loop-pool.pool-index c.pool-item.result c.as_slice-recs.result.now c.args.first c.loop-pool.number c.loop-pool.helper c.requires.few c.requires.first
    c.loop-pool-test.true c.pool-item.is c.as_slice-recs.ensures c.loop-pool.invariant.number c.loop-pool.invariant.helper in
    omega (arith, f.number_fits)

pub overflow_add-number : goal.overflow_add-number
overflow_add-number c =
    let f = pool_fits c.args.pools.now c.loop-pool.pool-index c.pool-item.result c.as_slice-recs.result.now c.args.first c.loop-pool.number c.loop-pool.helper c.requires.few c.requires.first
    c.loop-pool-test.true c.pool-item.is c.as_slice-recs.ensures c.loop-pool.invariant.number c.loop-pool.invariant.helper in
    omega (arith, f.number_fits)

pub overflow_cast-helper : goal.overflow_cast-helper
overflow_cast-helper c =
    let f = pool_fits c.args.pools.now c.loop-pool.pool-index c.pool-item.result c.as_slice-recs.result.now c.args.first c.loop-pool.number c.loop-pool.helper c.requires.few c.requires.first
    c.loop-pool-test.true c.pool-item.is c.as_slice-recs.ensures c.loop-pool.invariant.number c.loop-pool.invariant.helper in
    omega (arith, f.number_fits, c.saturating_sub.ensures)

pub overflow_add-helper : goal.overflow_add-helper
overflow_add-helper c =
    let f = pool_fits c.args.pools.now c.loop-pool.pool-index c.pool-item.result c.as_slice-recs.result.now c.args.first c.loop-pool.number c.loop-pool.helper c.requires.few c.requires.first
    c.loop-pool-test.true c.pool-item.is c.as_slice-recs.ensures c.loop-pool.invariant.number c.loop-pool.invariant.helper in
    omega (arith, f.helper_fits, c.saturating_sub.ensures)
