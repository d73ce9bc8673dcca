use Rattle.std.proofs.Common.{arith}
use Rattle.std.proofs.lemmas.Grind.{common_steps}
use Rattle.conda_base.proofs.NumberLemmas.{read_all}
use Rattle.conda_base.proofs.number.digits_u64.Goals as goal

pub loop-digit-init : goal.loop-digit-init
loop-digit-init c = read_all c.args.text.now (grind (arith, common_steps))
