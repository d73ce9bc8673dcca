use Rattle.conda_encode.proofs.Conditions.{is_request, lost, none, rest_is, the_parts}
use Rattle.conda_encode.proofs.request.is_request.Goals as goal

pub returns-then-not-are_few : goal.returns-then-not-are_few
returns-then-not-are_few c =
    none c.are_few.result (λ is. ((is_request c.args.pools.now c.args.asked.now).0 is).0) c.are_few.ensures c.if-not-are_few.true

pub returns-then-not-are_apart : goal.returns-then-not-are_apart
returns-then-not-are_apart c =
    none c.are_apart.result (λ is. ((is_request c.args.pools.now c.args.asked.now).0 is).1.0) c.are_apart.ensures c.if-not-are_apart.true

pub returns-then-are_fit : goal.returns-then-are_fit
returns-then-are_fit c =
    rest_is c.are_fit.result c.items_are_plain.result
    (the_parts c.args.pools.now c.args.asked.now (c.are_few.ensures.0 c.if-not-are_few.false)
    (c.are_apart.ensures.0 c.if-not-are_apart.false))
    c.are_fit.ensures c.items_are_plain.ensures c.if-are_fit.true

pub returns-else-are_fit : goal.returns-else-are_fit
returns-else-are_fit c =
    lost c.are_fit.result
    (the_parts c.args.pools.now c.args.asked.now (c.are_few.ensures.0 c.if-not-are_few.false)
    (c.are_apart.ensures.0 c.if-not-are_apart.false))
    c.are_fit.ensures c.if-are_fit.false
