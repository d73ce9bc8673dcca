use Rattle.conda_path.proofs.PathLemmas.{path_rule}
use Rattle.conda_path.proofs.rel_path.RelPath.as_str.Goals as goal

pub returns-clause-rule : goal.returns-clause-rule
returns-clause-rule c = rw (← c.self.view_is) (path_rule _ c.self.invariant)
