use Rattle.conda_path.proofs.PathLemmas.{prefix_rule}
use Rattle.conda_path.proofs.prefix.Prefix.as_str.Goals as goal

pub returns-clause-rule : goal.returns-clause-rule
returns-clause-rule c = rw (← c.self.view_is) (prefix_rule _ c.self.invariant)
