use Rattle.conda_paths.proofs.ListingLemmas.{one_path}
use Rattle.conda_paths.proofs.listing.is_new.Goals as goal

pub returns-clause-paths : goal.returns-clause-paths
returns-clause-paths c = λ before has. rw (← c.as_str.ensures.same) (rw (← c.in_ok-text.ensures) (one_path _ _ _ before has c.in_ok-insert.ensures.updates))
