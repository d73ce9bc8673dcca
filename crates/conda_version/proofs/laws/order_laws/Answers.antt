use Rattle.conda_version.proofs.CutLemmas.{cuts}
use Rattle.std.proofs.lemmas.Cmp.{tied_itself}
use Rattle.conda_version.proofs.AlikeLemmas.{version_begins}
use Rattle.conda_version.proofs.OrderLemmas.{version_total, version_transitive}
use Rattle.conda_version.proofs.VersionLemmas.{order_means, starts_means}
use Rattle.conda_version.proofs.laws.order_laws.Goals as goal

pub returns-clause-reflexive : goal.returns-clause-reflexive
returns-clause-reflexive c = tied_itself version_total

pub returns-clause-transitive : goal.returns-clause-transitive
returns-clause-transitive c = version_transitive

pub returns-clause-total : goal.returns-clause-total
returns-clause-total c = version_total.antisymm

pub returns-clause-equals : goal.returns-clause-equals
returns-clause-equals c = version_total.congr

pub returns-clause-means : goal.returns-clause-means
returns-clause-means c = order_means (cuts c.cut_laws.ensures.first c.cut_laws.ensures.no_first)

pub returns-clause-starts : goal.returns-clause-starts
returns-clause-starts c = starts_means (cuts c.cut_laws.ensures.first c.cut_laws.ensures.no_first)

pub returns-clause-alike : goal.returns-clause-alike
returns-clause-alike c = version_begins
