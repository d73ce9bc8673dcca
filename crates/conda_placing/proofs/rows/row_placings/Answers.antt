use Rattle.std.specs.Prelude.{◌+◌, ◌<◌, ◌++◌, drop, length, option_copied}
use Rattle.std.proofs.Common.{ap, sym, ◌∙◌, arith}
use Rattle.std.proofs.lemmas.Result.{err_from_is_err_and}
use Rattle.conda_placing.specs.Placing.{row_placings}
use Rattle.conda_placing.proofs.ContentLemmas.{item_here}
use Rattle.conda_placing.proofs.RowLemmas.{row_refused, rows_more, shown_length, start}
use Rattle.conda_placing.proofs.rows.row_placings.Goals as goal

pub loop-at-init : goal.loop-at-init
loop-at-init c =
    let pkg = c.args.pkg.now in
    let python = option_copied c.args.python in
    let exec = c.args.abilities.exec in
    start c.args.abilities c.new-made.result.items (row_placings python exec 0 c.as_slice-rows.result.now c.as_slice-shown.result.now)
    (row_placings python exec 0 pkg.listing.rows pkg.shown) c.args.places.now c.new-made.ensures.items
    (ap (λ rows. row_placings python exec 0 rows c.as_slice-shown.result.now) c.as_slice-rows.ensures
    ∙ ap (λ shown. row_placings python exec 0 pkg.listing.rows shown) c.as_slice-shown.ensures) c.requires.places

pub bounds-shown-at : goal.bounds-shown-at
bounds-shown-at c =
    let pkg = c.args.pkg.now in
    omega (arith, c.loop-at-test.true, ap length c.as_slice-rows.ensures, ap length c.as_slice-shown.ensures, shown_length pkg.listing.rows pkg.shown c.requires.pkg.shown)

pub returns-in_err-put_row-clause-refused : goal.returns-in_err-put_row-clause-refused
returns-in_err-put_row-clause-refused c =
    let pkg = c.args.pkg.now in
    let python = option_copied c.args.python in
    let exec = c.args.abilities.exec in
    let at = c.loop-at.at in
    let made = c.loop-at.made.items in
    let rows = c.as_slice-rows.result.now in
    let shown = c.as_slice-shown.result.now in
    let row = c.index-rows-at.result in
    let one = c.index-shown-at.result in
    let in_rows : at < length rows = c.loop-at-test.true in
    let in_listing : at < length pkg.listing.rows = omega (arith, in_rows, ap length c.as_slice-rows.ensures) in
    let in_shown : at < length shown = omega (arith, in_listing, ap length c.as_slice-shown.ensures, shown_length pkg.listing.rows pkg.shown c.requires.pkg.shown) in
    let p = err_from_is_err_and c.from_residual.result c.from_residual.ensures.1 in
    rw (p.1, p.2)
    (row_refused pkg python c.args.abilities made (row_placings python exec (at + 1) (drop (at + 1) rows) (drop (at + 1) shown))
    (row_placings python exec 0 pkg.listing.rows pkg.shown) at row one c.in_err-put_row.field-0.0
    c.loop-at.invariant.allowed (item_here pkg.listing.rows rows at row in_listing c.as_slice-rows.ensures c.index-rows-at.is)
    (sym c.loop-at.invariant.are ∙ rows_more python exec made at rows shown row one in_rows in_shown c.index-rows-at.is c.index-shown-at.is)
    c.in_err-put_row.ensures.refused)

pub loop-at-preserved : goal.loop-at-preserved
loop-at-preserved c =
    let pkg = c.args.pkg.now in
    let python = option_copied c.args.python in
    let exec = c.args.abilities.exec in
    let at = c.loop-at.at in
    let made = c.loop-at.made.items in
    let rows = c.as_slice-rows.result.now in
    let shown = c.as_slice-shown.result.now in
    let row = c.index-rows-at.result in
    let one = c.index-shown-at.result in
    let in_rows : at < length rows = c.loop-at-test.true in
    let in_shown : at < length shown =
    omega (arith, in_rows, ap length c.as_slice-rows.ensures, ap length c.as_slice-shown.ensures, shown_length pkg.listing.rows pkg.shown c.requires.pkg.shown) in
    record {
      are = ap (λ ps. ps ++ row_placings python exec (at + 1) (drop (at + 1) rows) (drop (at + 1) shown)) c.in_ok-put_row.ensures.made
          ∙ (sym (rows_more python exec made at rows shown row one in_rows in_shown c.index-rows-at.is c.index-shown-at.is) ∙ c.loop-at.invariant.are);
      paths = c.in_ok-put_row.ensures.places;
      allowed = c.in_ok-put_row.ensures.allowed;
    }
