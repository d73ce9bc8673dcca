use Rattle.std.specs.Prelude.{drop, option_copied}
use Rattle.conda_placing.specs.Placing.{row_placings}
use Rattle.conda_placing.proofs.RowLemmas.{IsPutSoFar}
use Rattle.conda_placing.proofs.rows.row_placings.Given as goal

abbrev pub invariant-loop-at : goal.invariant-loop-at
invariant-loop-at l =
    IsPutSoFar l.abilities (row_placings (option_copied l.python) l.abilities.exec 0 l.fn.pkg.listing.rows l.fn.pkg.shown) l.made.items
    (row_placings (option_copied l.python) l.abilities.exec l.at (drop l.at l.rows) (drop l.at l.shown)) l.places
