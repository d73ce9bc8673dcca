use Rattle.std.specs.Prelude.{◌≡◌, take}
use Rattle.conda_base.proofs.copied.copied_all.Given as goal

abbrev pub invariant-loop-item : goal.invariant-loop-item
invariant-loop-item g l = l.made.items ≡ take l.item-index l.items
