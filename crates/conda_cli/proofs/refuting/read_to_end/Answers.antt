use Rattle.std.proofs.Common.{◌++◌, arith}
use Rattle.std.proofs.lemmas.Grind.{common_steps}
use Rattle.conda_cli.proofs.ReadLemmas.{heard_long, led_more}
use Rattle.conda_cli.proofs.refuting.read_to_end.Goals as goal

pub returns-then-len-gt-LOG_LIMIT-clause-cause : goal.returns-then-len-gt-LOG_LIMIT-clause-cause
returns-then-len-gt-LOG_LIMIT-clause-cause g c =
    let before = c.loop-turn.bytes.items in
    let more = c.in-Ok.more.items in
    heard_long (before ++ more) (g.I.In.left c.args.input.now) (g.I.In.left c.take.new.self) (g.I.In.left c.take.new.self)
    (led_more before more _ (g.I.In.left c.loop-turn.input) _ c.loop-turn.invariant.left c.in-Ok.ensures.first) (grind (arith, common_steps))
