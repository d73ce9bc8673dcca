use Rattle.conda_goods.specs.Conflicts.{OwnersRepeatNoPath}
use Rattle.rows_environments.proofs.goods.read_parts.Given as goal

abbrev pub invariant-loop-text : goal.invariant-loop-text
invariant-loop-text l = OwnersRepeatNoPath l.parts.items
