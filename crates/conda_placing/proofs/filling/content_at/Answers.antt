use Rattle.std.specs.Prelude.{Some}
use Rattle.std.proofs.Common.{ap, ◌∙◌}
use Rattle.std.proofs.lemmas.Result.{IfErr-weaker, IfOk-weaker, on_ok_weaker}
use Rattle.conda_placing.specs.Content.{IsContent, IsRowContent}
use Rattle.conda_placing.specs.Placing.{IsListed}
use Rattle.conda_placing.specs.Refusals.{RefusesContent, RefusesFilled}
use Rattle.conda_placing.specs.declared.placing.Origin.{Origin}
use Rattle.conda_placing.proofs.ContentLemmas.{all_at, has_room, in_shown, no_folder, refuses_at, row_here, shown_at, shown_here}
use Rattle.conda_placing.proofs.filling.content_at.Goals as goal

pub bounds-as_slice-at-2 : goal.bounds-as_slice-at-2
bounds-as_slice-at-2 c =
    let pkg = c.args.pkg.now in
    in_shown pkg.listing.rows pkg.shown c.as_slice-2.result.now c.args.at c.requires.row c.requires.pkg.shown c.as_slice-2.ensures

pub unreachable-requires : goal.unreachable-requires
unreachable-requires c =
    let pkg = c.args.pkg.now in
    let row = c.index-as_slice-at.result in
    let one = c.index-as_slice-at-2.result in
    let is_row = row_here pkg.listing.rows c.as_slice.result.now c.args.at row c.requires.row c.as_slice.ensures c.index-as_slice-at.is in
    let is_one = shown_here pkg.listing.rows pkg.shown c.as_slice-2.result.now c.args.at one c.requires.row c.requires.pkg.shown c.as_slice-2.ensures c.index-as_slice-at-2.is in
    no_folder pkg.listing.rows c.args.at row c.requires.row is_row
    (shown_at pkg.listing.rows pkg.shown c.args.at row one c.requires.pkg.shown is_row is_one c.in_default.is)

pub row_content-requires-clause-row : goal.row_content-requires-clause-row
row_content-requires-clause-row c =
    let pkg = c.args.pkg.now in
    let row = c.index-as_slice-at.result in
    all_at IsListed pkg.listing.rows c.args.at row c.requires.pkg.rows
    (row_here pkg.listing.rows c.as_slice.result.now c.args.at row c.requires.row c.as_slice.ensures c.index-as_slice-at.is)

pub row_content-requires-clause-kind : goal.row_content-requires-clause-kind
row_content-requires-clause-kind c =
    let pkg = c.args.pkg.now in
    let row = c.index-as_slice-at.result in
    no_folder pkg.listing.rows c.args.at row c.requires.row
    (row_here pkg.listing.rows c.as_slice.result.now c.args.at row c.requires.row c.as_slice.ensures c.index-as_slice-at.is)

pub returns-clause-content : goal.returns-clause-content
returns-clause-content c =
    let pkg = c.args.pkg.now in
    let row = c.index-as_slice-at.result in
    let one = c.index-as_slice-at-2.result in
    let is_row = row_here pkg.listing.rows c.as_slice.result.now c.args.at row c.requires.row c.as_slice.ensures c.index-as_slice-at.is in
    let is_one = shown_here pkg.listing.rows pkg.shown c.as_slice-2.result.now c.args.at one c.requires.row c.requires.pkg.shown c.as_slice-2.ensures c.index-as_slice-at-2.is in
    IfOk-weaker c.row_content.result (λ made. IsRowContent row.kind row c.in-Some.shown c.args.prefix.now c.args.bytes.items made)
    (IsContent pkg c.args.prefix.now (Origin.Row c.args.at) c.args.bytes.items)
    (λ made is. (row, c.in-Some.shown, record { is_row = is_row; is_shown = is_one ∙ ap Some c.in-Some.is }, is)) c.row_content.ensures.content

pub returns-clause-room : goal.returns-clause-room
returns-clause-room c =
    let pkg = c.args.pkg.now in
    let row = c.index-as_slice-at.result in
    on_ok_weaker c.row_content.result
    (has_room pkg c.args.prefix.now c.args.at row c.args.bytes.items
    (row_here pkg.listing.rows c.as_slice.result.now c.args.at row c.requires.row c.as_slice.ensures c.index-as_slice-at.is)) c.row_content.ensures.room

pub returns-clause-refused : goal.returns-clause-refused
returns-clause-refused c =
    let pkg = c.args.pkg.now in
    let row = c.index-as_slice-at.result in
    IfErr-weaker c.row_content.result (RefusesFilled row c.args.prefix.now c.args.bytes.items)
    (RefusesContent pkg c.args.prefix.now (Origin.Row c.args.at) c.args.bytes.items)
    (λ e h. refuses_at pkg c.args.prefix.now c.args.at row c.args.bytes.items e
    (row_here pkg.listing.rows c.as_slice.result.now c.args.at row c.requires.row c.as_slice.ensures c.index-as_slice-at.is) h)
    c.row_content.ensures.refused
