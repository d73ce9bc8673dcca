use Rattle.std.specs.Prelude.{◌+◌, [], ◌∷◌, ◌++◌, List, drop, length}
use Rattle.std.proofs.Common.{sym, ◌∙◌, subst}
use Rattle.std.proofs.lemmas.Result.{err_from_is_err_and}
use Rattle.conda_paths.specs.declared.row.Row.{Row}
use Rattle.conda_placing.specs.Placing.{script_placings}
use Rattle.conda_placing.specs.Refusals.{RefusesScript}
use Rattle.conda_placing.proofs.RowLemmas.{script_refused, scripts_more}
use Rattle.conda_placing.proofs.rows.put_scripts.Goals as goal

pub returns-in_err-put_script-clause-refused : goal.returns-in_err-put_script-clause-refused
returns-in_err-put_script-clause-refused c =
    let pkg = c.args.pkg.now in
    let exec = c.args.abilities.exec in
    let at = c.loop-at.at in
    let made = c.loop-at.made.items in
    let entries = c.as_slice-entries.result.now in
    let entry = c.index-entries-at.result in
    let error = c.in_err-put_script.field-0.0 in
    let p = err_from_is_err_and c.from_residual.result c.from_residual.ensures.1 in
    rw (p.1, p.2)
    (script_refused pkg c.args.abilities made (script_placings exec (at + 1) (drop (at + 1) entries)) (c.args.made.now.items ++ script_placings exec 0 pkg.link.entries) at entry error
    c.loop-at.invariant.allowed (sym c.loop-at.invariant.are ∙ scripts_more exec made at entries entry c.loop-at-test.true c.index-entries-at.is)
    (subst (λ (rows : List Row). RefusesScript (length rows + at) made (script_placings exec at (entry ∷ [])) error) c.as_slice-rows.ensures
    c.in_err-put_script.ensures.refused))
