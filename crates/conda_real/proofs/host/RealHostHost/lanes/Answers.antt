use Rattle.std.proofs.Common.{◌≤◌, length, arith}
use Rattle.conda_real.proofs.LentLemmas.{together_none}
use Rattle.conda_real.proofs.host.RealHostHost.lanes.Goals as goal

pub returns-clause-tree : goal.returns-clause-tree
returns-clause-tree g c =
    let some : 1 ≤ length c.in_ok-lanes.lanes.items = omega (arith, c.in_ok-lanes.ensures.count, c.requires.some) in
    together_none c.in_ok-lanes.lanes.items some
