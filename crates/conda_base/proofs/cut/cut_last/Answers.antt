use Rattle.conda_base.proofs.CutLemmas.{last_cuts}
use Rattle.conda_base.proofs.cut.cut_last.Goals as goal

pub returns-clause-cut : goal.returns-clause-cut
returns-clause-cut c =
    last_cuts c.args.mark c.args.text.now c.rsplit_once.result (rw c.from.ensures at c.rsplit_once.ensures.cases) c.requires
