use Rattle.std.specs.Prelude.{◌≡◌, drop, option_copied}
use Rattle.conda_meta.specs.Reading.{in_order, in_order_behind}
use Rattle.conda_meta.proofs.requested.are_in_order.Given as goal

abbrev pub invariant-loop-spec : goal.invariant-loop-spec
invariant-loop-spec l = in_order_behind (option_copied l.last) (drop l.spec-index l.specs) ≡ in_order l.specs
