use Rattle.std.proofs.Common.{arith}
use Rattle.conda_resolve.proofs.Ranks.{pushed_number}
use Rattle.conda_resolve.proofs.ranking.add_variables.Goals as goal

pub loop-at-preserved : goal.loop-at-preserved
loop-at-preserved c =
    pushed_number c.args.first c.args.recs.now c.loop-at.at c.args.list.now.items c.loop-at.list.items c.push.new.self.items (omega arith) c.loop-at.invariant c.in_ok-push.ensures.items
