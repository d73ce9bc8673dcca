use Rattle.std.proofs.Common.{◌≡◌, ◌++◌, drop}
use Rattle.conda_goods.proofs.merge.add_goods.Given as goal

-- the goods so far, and those that are left
abbrev pub invariant-loop-good : goal.invariant-loop-good
invariant-loop-good l = l.goods.items ++ drop l.good-index l.good-items ≡ l.fn.goods.items ++ l.fn.part.goods
