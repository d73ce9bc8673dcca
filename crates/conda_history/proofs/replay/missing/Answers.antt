use Rattle.conda_history.proofs.ChangeLemmas.{missing_more}
use Rattle.conda_history.proofs.replay.missing.Goals as goal

pub loop-dist-preserved : goal.loop-dist-preserved
loop-dist-preserved c =
    missing_more c.args.set.now.keys c.loop-dist.yielded c.in-Some.dist c.loop-dist.rows c.push_if.new.rows c.holds-wanted.result
    c.in_ok-push_if.ensures c.loop-dist.invariant c.holds-wanted.ensures
