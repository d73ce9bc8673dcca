use Rattle.std.proofs.Common.{All, subst}
use Rattle.conda_index.specs.Pools.{NamesPlainly, given}
use Rattle.rows_requests.proofs.index.index_of.Goals as goal

pub make-requires-clause-plain : goal.make-requires-clause-plain
make-requires-clause-plain g c κs within =
    subst (λ parts. All NamesPlainly (given parts)) c.as_slice.ensures.value (c.in_ok-can_index.ensures.plain c.if-not-branch.false)
