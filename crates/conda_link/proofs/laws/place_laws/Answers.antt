use Rattle.std.proofs.Common.{refl}
use Rattle.conda_link.proofs.RuleLemmas.{stays}
use Rattle.conda_link.proofs.laws.place_laws.Goals as goal

pub returns-clause-site : goal.returns-clause-site
returns-clause-site c = λ python rest. refl

pub returns-clause-scripts : goal.returns-clause-scripts
returns-clause-scripts c = λ python rest. refl

pub returns-clause-other : goal.returns-clause-other
returns-clause-other c = stays c.cut_laws.ensures.first
