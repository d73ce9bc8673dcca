use Rattle.std.specs.Prelude.{◌++◌, drop}
use Rattle.conda_placing.specs.Placing.{script_placings}
use Rattle.conda_placing.proofs.RowLemmas.{IsPutSoFar}
use Rattle.conda_placing.proofs.rows.put_scripts.Given as goal

abbrev pub invariant-loop-at : goal.invariant-loop-at
invariant-loop-at l =
    IsPutSoFar l.abilities (l.fn.made.items ++ script_placings l.abilities.exec 0 l.fn.pkg.link.entries) l.made.items
    (script_placings l.abilities.exec l.at (drop l.at l.entries)) l.places
