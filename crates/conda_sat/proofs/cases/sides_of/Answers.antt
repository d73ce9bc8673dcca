use Rattle.conda_sat.proofs.CasesLemmas.{sides-push}
use Rattle.conda_sat.proofs.cases.sides_of.Goals as goal

pub loop-number-preserved : goal.loop-number-preserved
loop-number-preserved c =
    rw c.in_ok-push.ensures.items
    (sides-push c.loop-number.number c.args.decided.now c.loop-number.sides.items c.is_decided.result c.loop-number.invariant
    c.is_decided.ensures)
