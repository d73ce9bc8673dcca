use Rattle.std.specs.Prelude.{◌≡◌, drop, map, option_copied}
use Rattle.conda_meta.specs.Reading.{ascend, ascend_behind}
use Rattle.conda_meta.proofs.named.ascend.Given as goal

abbrev pub invariant-loop-item : goal.invariant-loop-item
invariant-loop-item g l = ascend_behind (option_copied l.last) (map g.T.Named.name (drop l.item-index l.items)) ≡ ascend (map g.T.Named.name l.items)
