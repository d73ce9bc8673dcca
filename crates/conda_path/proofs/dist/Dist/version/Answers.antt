use Rattle.conda_path.proofs.dist.Dist.version.Goals as goal

pub returns-clause-split : goal.returns-clause-split
returns-clause-split c = rw (← c.self.view_is) (c.dist_laws.ensures.split _ c.self.invariant)
