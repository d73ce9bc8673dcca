use Rattle.std.proofs.Common.{◌≡◌, length}
use Rattle.conda_encode.proofs.Conditions.{all_ascend}
use Rattle.conda_encode.proofs.request.ascend.Goals as goal

pub returns : goal.returns
returns c =
    let empty : length c.loop-pool.left.now ≡ 0 = rw c.in_default.is at c.split_first.ensures.cases in
    λ _. all_ascend c.args.pools.now c.loop-pool.left.now empty c.loop-pool.invariant
