use Rattle.conda_clause.proofs.PlaceLemmas.{kept_bare, place_inside, places_bare}
use Rattle.conda_clause.proofs.SpaceLemmas.{kept_both, only_kept}
use Rattle.conda_clause.proofs.laws.kept_laws.Goals as goal

pub returns : goal.returns
returns c =
    record {
      stay = λ text chars at. (only_kept text chars at, kept_both text chars at);
      same = kept_bare;
      places = places_bare;
      inside = place_inside;
    }
