use Rattle.std.specs.Prelude.{option_copied}
use Rattle.std.proofs.lemmas.Result.{err_from_is_err_and}
use Rattle.conda_placing.specs.Placing.{entries_for, row_placings, script_placings}
use Rattle.conda_placing.proofs.RowLemmas.{refused_more}
use Rattle.conda_placing.proofs.rows.placings_for.Goals as goal

pub returns-in_err-made-clause-refused : goal.returns-in_err-made-clause-refused
returns-in_err-made-clause-refused c =
    let pkg = c.args.pkg.now in
    let python = option_copied c.args.python in
    let exec = c.args.abilities.exec in
    let p = err_from_is_err_and c.from_residual.result c.from_residual.ensures.1 in
    rw (p.1, p.2)
    (refused_more pkg c.args.abilities (row_placings python exec 0 pkg.listing.rows pkg.shown) (script_placings exec 0 (entries_for python pkg)) c.in_err-made.field-0.0
    c.in_err-made.ensures.refused)
