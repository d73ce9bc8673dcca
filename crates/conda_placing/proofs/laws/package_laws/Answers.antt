use Rattle.conda_json.specs.Json.{object_read}
use Rattle.conda_placing.proofs.PackageLemmas.{link_law, listing_law}
use Rattle.conda_placing.proofs.laws.package_laws.Goals as goal

pub returns-clause-listing : goal.returns-clause-listing
returns-clause-listing c = listing_law c.listing_laws.ensures

pub returns-clause-link : goal.returns-clause-link
returns-clause-link c = λ bytes link e. link_law c.link_laws.ensures.file (object_read bytes) link e
