use Rattle.conda_base.proofs.CutLemmas.{first_cuts}
use Rattle.conda_base.proofs.cut.cut_first.Goals as goal

pub returns-clause-cut : goal.returns-clause-cut
returns-clause-cut c =
    first_cuts c.args.mark c.args.text.now c.split_once.result (rw c.from.ensures at c.split_once.ensures.cases) c.requires
