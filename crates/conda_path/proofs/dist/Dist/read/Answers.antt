use Rattle.conda_path.proofs.dist.Dist.read.Goals as goal

pub returns-then-not-is_dist-clause-bad : goal.returns-then-not-is_dist-clause-bad
returns-then-not-is_dist-clause-bad c = λ _ r. let e = (c.dist_laws.ensures.rule c.args.text.now).1 r in absurd (cc)

pub returns-in-Ok-clause-ok : goal.returns-in-Ok-clause-ok
returns-in-Ok-clause-ok c = (c.dist_laws.ensures.rule c.args.text.now).0 (cc)
