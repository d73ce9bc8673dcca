use Rattle.conda_index.proofs.OrderLemmas.{index_total, plain_total}
use Rattle.conda_index.proofs.laws.order_laws.Goals as goal

pub returns-clause-plain : goal.returns-clause-plain
returns-clause-plain c =
    plain_total (record { transitive = c.order_laws.ensures.transitive; total = c.order_laws.ensures.total; equals = c.order_laws.ensures.equals })

pub returns-clause-index : goal.returns-clause-index
returns-clause-index c =
    index_total (record { transitive = c.order_laws.ensures.transitive; total = c.order_laws.ensures.total; equals = c.order_laws.ensures.equals })
