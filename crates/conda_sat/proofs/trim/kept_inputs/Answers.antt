use Rattle.std.proofs.Common.{arith, sym}
use Rattle.std.specs.Prelude.{Contains}
use Rattle.std.proofs.lemmas.List.Elements.{All-push}
use Rattle.conda_sat.proofs.trim.kept_inputs.Goals as goal

pub loop-at-preserved : goal.loop-at-preserved
loop-at-preserved c =
    rw c.in_ok-push.ensures.ok
    (All-push (Contains c.args.inputs.now) c.loop-at.made c.in_ok-copy.field-0 c.loop-at.invariant
    (rw c.in_ok-copy.ensures (c.loop-at.at, omega arith, sym c.index-inputs-at.is)))
