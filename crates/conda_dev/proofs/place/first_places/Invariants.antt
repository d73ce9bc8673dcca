use Rattle.conda_dev.proofs.PlaceLemmas.{AreGiven}
use Rattle.conda_dev.proofs.place.first_places.Given as goal

abbrev pub invariant-loop-prefix : goal.invariant-loop-prefix
invariant-loop-prefix l = AreGiven l.prefix-iterator.rest.items l.fn.prefixes.items l.places.entries
