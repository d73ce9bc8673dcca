use Rattle.conda_path.proofs.dist.Dist.text.Goals as goal

pub returns-clause-rule : goal.returns-clause-rule
returns-clause-rule c = rw (← c.self.view_is) ((c.dist_laws.ensures.rule _).0 c.self.invariant)
