use Rattle.conda_meta.proofs.FoldLemmas.{is_fold}
use Rattle.conda_meta.proofs.folding.fold.Goals as goal

pub returns-clause-fold : goal.returns-clause-fold
returns-clause-fold c =
    is_fold c.args.revs.now c.in_ok-present.present _ c.in_ok-present.ensures c.in_ok-listed.ensures.ordered c.in_ok-listed.ensures.list c.in_ok-requested_last.ensures
