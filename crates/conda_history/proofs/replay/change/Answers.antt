use Rattle.conda_history.proofs.ChangeLemmas.{changed_as, stays_ascending, step_is}
use Rattle.conda_history.proofs.replay.change.Goals as goal

pub returns-clause-change : goal.returns-clause-change
returns-clause-change c =
    changed_as c.args.set.now.keys _ _ _ _ _ _ _ c.args.block.now c.requires c.in_ok-leaving.ensures.set c.in_ok-replay.ensures
    c.in_ok-leaving.ensures.left c.in_ok-removed.ensures c.as_slice.ensures c.in_ok-joining.ensures c.in_ok-added.ensures

pub returns-clause-ascending : goal.returns-clause-ascending
returns-clause-ascending c =
    stays_ascending c.args.set.now.keys _ c.args.block.now c.requires
    (step_is c.args.set.now.keys _ _ c.args.block.now c.in_ok-leaving.ensures.set c.in_ok-replay.ensures)
