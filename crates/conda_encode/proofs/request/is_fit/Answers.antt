use Rattle.conda_encode.proofs.Conditions.{fits, lost, rest_is}
use Rattle.conda_encode.proofs.request.is_fit.Goals as goal

pub returns-then-are_of : goal.returns-then-are_of
returns-then-are_of c =
    rest_is c.are_of.result c.need_plainly.result (fits c.args.pool.now)
    (rw c.as_slice-recs.ensures at (rw c.as_str.ensures at c.are_of.ensures))
    (rw c.as_slice-recs.ensures at c.need_plainly.ensures) c.if-are_of.true

pub returns-else-are_of : goal.returns-else-are_of
returns-else-are_of c =
    lost c.are_of.result (fits c.args.pool.now) (rw c.as_slice-recs.ensures at (rw c.as_str.ensures at c.are_of.ensures))
    c.if-are_of.false
