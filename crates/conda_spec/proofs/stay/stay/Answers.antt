use Rattle.std.proofs.Common.{◌≡◌, ◌≤◌, ℕ, List, length, ap, arith, unwrap_or}
use Rattle.std.specs.List.{slice_get}
use Rattle.conda_clause.specs.Faults.{place_of}
use Rattle.conda_spec.proofs.stay.stay.Goals as goal

pub invariant_of-result : goal.invariant_of-result
invariant_of-result c = record {
  fits = λ i.
      let text : List ℕ = c.args.text.now in
      let same : unwrap_or (slice_get c.in_ok-kept.kept.places.items i) (length text) ≡ place_of text i =
      ap (λ places. unwrap_or (slice_get places i) (length text)) c.in_ok-kept.ensures.places in
      let inside : place_of text i ≤ length text = c.kept_laws.ensures.inside text i in
      omega (arith, same, inside, c.requires);
}
