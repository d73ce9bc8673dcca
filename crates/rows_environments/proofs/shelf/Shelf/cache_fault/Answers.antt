use Rattle.std.proofs.Math.Nat.{le_refl}
use Rattle.rows_environments.proofs.Supplies.{keeps, lacks_same, some_one}
use Rattle.rows_environments.proofs.shelf.Shelf.cache_fault.Goals as goal

pub returns : goal.returns
returns c = record {
  keeps = keeps _ _ _ _ _ _ _ _ (le_refl _) c.raise.ensures.later (lacks_same _ _);
  cause = some_one _ _ _ c.raise.ensures.rose;
}
