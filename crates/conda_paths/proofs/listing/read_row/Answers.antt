use Rattle.std.specs.Prelude.{◌∷◌, [], ◌++◌}
use Rattle.conda_paths.specs.Listings.{HasPaths}
use Rattle.conda_paths.proofs.ListingLemmas.{path_is}
use Rattle.conda_paths.proofs.listing.read_row.Goals as goal

pub returns-clause-paths : goal.returns-clause-paths
returns-clause-paths c = λ before has.
    path_is (λ path. HasPaths c.is_new.new.paths (before ++ path ∷ [])) _ _ c.read_kind.ensures.path (c.in_ok-is_new.ensures.paths before has)
