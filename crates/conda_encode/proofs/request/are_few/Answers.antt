use Rattle.std.proofs.Common.{arith, sym, true≢false}
use Rattle.conda_encode.proofs.Conditions.{with_one}
use Rattle.conda_encode.proofs.request.are_few.Goals as goal

pub returns-then-more-ge-RECORD_LIMIT : goal.returns-then-more-ge-RECORD_LIMIT
returns-then-more-ge-RECORD_LIMIT c =
    let all = with_one c.args.pools.now c.loop-pool.pool-index c.pool-item.result c.loop-pool-test.true (sym c.pool-item.is) in
    (λ h. absurd (true≢false (sym h)), λ h. absurd (omega (arith, all, h, c.len-more.ensures)))

pub returns-then-count-more-ge-RECORD_LIMIT : goal.returns-then-count-more-ge-RECORD_LIMIT
returns-then-count-more-ge-RECORD_LIMIT c =
    let all = with_one c.args.pools.now c.loop-pool.pool-index c.pool-item.result c.loop-pool-test.true (sym c.pool-item.is) in
    (λ h. absurd (true≢false (sym h)), λ h. absurd (omega (arith, all, h, c.len-more.ensures)))
