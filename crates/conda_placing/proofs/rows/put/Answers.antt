use Rattle.std.specs.Prelude.{◌≡◌, true, false, not}
use Rattle.std.specs.List.{list_any}
use Rattle.conda_base.specs.Texts.{is_text}
use Rattle.conda_placing.specs.Placing.{places_of}
use Rattle.conda_placing.proofs.PutLemmas.{among_them, is_free, not_among, stood_before}
use Rattle.conda_placing.proofs.rows.put.Goals as goal

pub returns-then-not-branch-clause-refused : goal.returns-then-not-branch-clause-refused
returns-then-not-branch-clause-refused c = λ path gives.
    let places = places_of c.args.made.now.items in
    let known = c.in_ok-is_new.ensures.new places c.requires in
    let old : not (list_any (is_text c.in-Some.path) places) ≡ false = cc (known, c.if-not-branch.true) in
    stood_before c.args.place c.in-Some.path path c.args.kind c.args.from c.args.row c.args.made.now.items c.in-Some.is gives (among_them places c.in-Some.path old)

pub returns-clause-new : goal.returns-clause-new
returns-clause-new c = λ path gives.
    let places = places_of c.args.made.now.items in
    let known = c.in_ok-is_new.ensures.new places c.requires in
    let new : not (list_any (is_text c.in-Some.path) places) ≡ true = cc (known, c.if-not-branch.false) in
    is_free c.args.place c.in-Some.path path c.args.made.now.items c.in-Some.is gives (not_among places c.in-Some.path new)
