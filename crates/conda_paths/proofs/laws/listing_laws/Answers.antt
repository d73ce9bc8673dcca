use Rattle.conda_paths.proofs.RuleLemmas.{listing_law}
use Rattle.conda_paths.proofs.laws.listing_laws.Goals as goal

pub returns : goal.returns
returns c = listing_law
