use Rattle.std.proofs.Common.{◌≡◌, ◌++◌, ◌+◌, drop, map}
use Rattle.conda_clause.specs.Kept.{chars_at}
use Rattle.conda_clause.proofs.kept.add_places.Given as goal

abbrev pub invariant-loop-i : goal.invariant-loop-i
invariant-loop-i l =
    l.places.items ++ map (λ m. m.0) (chars_at (l.at + l.i) (drop l.i l.run)) ≡ l.fn.places.items ++ map (λ m. m.0) (chars_at l.at l.run)
