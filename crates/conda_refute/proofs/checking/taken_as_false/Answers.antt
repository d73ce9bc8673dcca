use Rattle.std.proofs.Common.{ℤ, pos, get_or, ◌∙◌, SFits, w32, w64, to_z-of_z, rules, arith}
use Rattle.conda_refute.proofs.Same.{taken_more}
use Rattle.conda_refute.proofs.checking.taken_as_false.Goals as goal

pub loop-literal-preserved : goal.loop-literal-preserved
loop-literal-preserved c = λ (q : ℤ).
    let fits : SFits w64 c.from.result = search rules in
    taken_more c.args.clause.now c.loop-literal.literal-index c.from.result q c.loop-literal.falses c.add.new.self (omega arith) (let fits32 : SFits w32 (get_or c.args.clause.now c.loop-literal.literal-index (pos 0)) = search rules in c.from.ensures ∙ to_z-of_z fits32) (simp to_z-of_z at (c.in_ok-add.ensures q)) (c.loop-literal.invariant q)
