use Rattle.std.proofs.Common.{rules}
use Rattle.conda_index.proofs.OrderLemmas.{VersionLaws, sorted_by_index}
use Rattle.conda_index.proofs.order.put_in_order.Goals as goal

pub returns-clause-order : goal.returns-clause-order
returns-clause-order g c =
    let laws : VersionLaws =
    record { transitive = c.order_laws.ensures.transitive; total = c.order_laws.ensures.total; equals = c.order_laws.ensures.equals }
    in
    sorted_by_index laws _ c.par_sort_unstable_by.ensures.sorted (λ a r f' k. search rules)
