use Rattle.std.specs.Prelude.{option_copied}
use Rattle.std.proofs.Common.{sym, ◌∙◌, subst}
use Rattle.std.proofs.lemmas.Bool.{true≢false}
use Rattle.conda_placing.specs.Placing.{AreAllowed, place_of, row_placing}
use Rattle.conda_placing.specs.declared.placing.Origin.{Origin}
use Rattle.conda_placing.specs.declared.placing.Placing.{Placing}
use Rattle.conda_placing.proofs.PutLemmas.{allowed_push}
use Rattle.conda_placing.proofs.RowLemmas.{link_refused, row_gives}
use Rattle.conda_placing.proofs.rows.put_row.Goals as goal

pub returns-then-is_no_link-clause-refused : goal.returns-then-is_no_link-clause-refused
returns-then-is_no_link-clause-refused c =
    let python = option_copied c.args.python in
    let row = c.args.row.now in
    let place = place_of python row.path in
    let placing : Placing = record { path = place; kind = c.as_able-kind.result; from = Origin.Row c.args.at } in
    let link = c.is_no_link.ensures.0 c.if-is_no_link.true in
    link_refused c.args.abilities c.args.at row c.args.made.now.items (row_placing python c.args.abilities.exec c.args.at row c.args.shown.now) placing c.in_ok-copy.field-0
    (row_gives python c.args.abilities.exec c.args.at row c.args.shown.now c.in-Some.kind c.as_able-kind.result (sym c.row_kind.ensures ∙ c.in-Some.is) c.as_able-kind.ensures)
    (c.in_ok-put.ensures.short place c.in_ok-place.ensures) (c.in_ok-put.ensures.new place c.in_ok-place.ensures)
    (record { kind = link.0; soft = link.1 }) c.in_ok-copy.ensures

pub returns-clause-allowed : goal.returns-clause-allowed
returns-clause-allowed c =
    let place = place_of (option_copied c.args.python) c.args.row.now.path in
    let placing : Placing = record { path = place; kind = c.as_able-kind.result; from = Origin.Row c.args.at } in
    subst (AreAllowed c.args.abilities) (sym (c.in_ok-put.ensures.made place c.in_ok-place.ensures))
    (allowed_push c.args.abilities c.args.made.now.items placing c.requires.allowed
    (c.in_ok-put.ensures.short place c.in_ok-place.ensures) (c.in_ok-put.ensures.new place c.in_ok-place.ensures)
    (λ link. true≢false (sym (c.is_no_link.ensures.1 (link.kind, link.soft)) ∙ c.if-is_no_link.false)))
