use Rattle.conda_encode.proofs.Conditions.{lost, plainly, rest_is}
use Rattle.conda_encode.proofs.request.needs_plainly.Goals as goal

pub returns-then-are_plain : goal.returns-then-are_plain
returns-then-are_plain c =
    rest_is c.are_plain.result c.are_plain-then-are_plain.result (plainly c.args.pkg.now)
    (rw c.as_slice.ensures at c.are_plain.ensures)
    (rw c.as_slice-then-are_plain.ensures at c.are_plain-then-are_plain.ensures) c.if-are_plain.true

pub returns-else-are_plain : goal.returns-else-are_plain
returns-else-are_plain c =
    lost c.are_plain.result (plainly c.args.pkg.now) (rw c.as_slice.ensures at c.are_plain.ensures) c.if-are_plain.false
