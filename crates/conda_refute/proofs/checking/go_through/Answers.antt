use Rattle.std.proofs.Common.{ℤ, get_or, refl, sym, ◌∙◌, SFits, w32, w64, to_z-of_z, rules, arith}
use Rattle.conda_refute.specs.Refutation.{clauses_of}
use Rattle.conda_refute.proofs.Hints.{hint_one}
use Rattle.conda_refute.proofs.checking.go_through.Goals as goal

pub loop-hint-preserved : goal.loop-hint-preserved
loop-hint-preserved c =
    let literal_fits : SFits w32 c.in-One.literal = search rules in
    let opposite_fits : SFits w64 c.opposite-opposite.result = search rules in
    hint_one (clauses_of c.args.inputs.now c.args.before.now) c.args.hints.now c.loop-hint.hint-index (get_or c.args.hints.now c.loop-hint.hint-index 0) c.loop-hint.falses
    c.in-Some.clause.now c.in-One.literal c.opposite-opposite.result c.add.new.self (omega arith) refl c.in-Some.ensures
    (rw c.as_slice.ensures at c.in-One.ensures) (simp to_z-of_z at c.opposite-opposite.ensures)
    (sym (simp to_z-of_z at c.has.ensures) ∙ c.if-has.false) (λ (q : ℤ). simp to_z-of_z at (c.in_ok-add-in-One.ensures q))
    ∙ c.loop-hint.invariant
