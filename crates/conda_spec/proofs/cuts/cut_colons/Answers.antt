use Rattle.conda_spec.proofs.CutLemmas.{colons_are}
use Rattle.conda_spec.proofs.cuts.cut_colons.Goals as goal

pub returns-clause-cut : goal.returns-clause-cut
returns-clause-cut c = colons_are c.args.text.now c.split_once.result c.split_once.ensures.cases
