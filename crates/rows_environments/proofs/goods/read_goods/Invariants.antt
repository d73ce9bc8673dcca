use Rattle.std.proofs.Common.{◌≢◌}
use Rattle.std.specs.List.{AllPairs}
use Rattle.rows_environments.proofs.goods.read_goods.Given as goal

abbrev pub invariant-loop-size : goal.invariant-loop-size
invariant-loop-size l = AllPairs (λ a b. a.path ≢ b.path) l.goods.items
