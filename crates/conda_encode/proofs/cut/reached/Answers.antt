use Rattle.std.proofs.Common.{◌≡◌, ◌∙◌, ap, false, Bool, List, arith, length, sym, subst}
use Rattle.std.proofs.lemmas.List.{length-replicate}
use Rattle.conda_encode.specs.Models.{IsCut, chosen}
use Rattle.conda_encode.specs.Sides.{side_of}
use Rattle.conda_encode.proofs.Reaching.{marks_cut, wanted_grows, whole}
use Rattle.conda_encode.proofs.cut.reached.Goals as goal

pub returns-clause-cut : goal.returns-clause-cut
returns-clause-cut c =
    let new : List Bool = c.mark_reached.new.marks in
    let len : c.in_ok-marks.marks.len ≡ length c.args.recs.now = c.in_ok-marks.ensures.len in
    let old : length c.in_ok-marks.marks.items ≡ length c.args.recs.now = ap length (c.in_ok-marks.ensures.items_if_clones_equal (λ y h. h)) ∙ length-replicate (length c.args.recs.now) false in
    let cut : IsCut c.args.pools.now c.args.items.now (side_of c.args.model.now) (chosen c.args.pools.now (side_of new))
    = marks_cut c.args.pools.now c.args.items.now c.args.model.now new c.in_ok-mark_reached.ensures.sound
    (wanted_grows c.args.pools.now c.args.model.now c.mark_wanted.new.marks new c.args.items.now c.in_ok-mark_wanted.ensures.marked c.in_ok-mark_reached.ensures.grows)
    c.in_ok-mark_reached.ensures.marked in
    let P : List Bool → Type 0 = λ ms. IsCut c.args.pools.now c.args.items.now (side_of c.args.model.now) (chosen c.args.pools.now (side_of ms)) in
    subst P (sym (whole new c.in_ok-marks.marks.items c.in_ok-marks.marks.len (omega (arith, c.mark_reached.auto.marks, c.mark_wanted.auto.marks, c.as_mut_slice-sides.ensures.len, len, old)) (omega (arith, len, old)))) cut
