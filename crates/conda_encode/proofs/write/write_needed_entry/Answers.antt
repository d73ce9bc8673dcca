use Rattle.conda_encode.proofs.Nonzero.{list_named, list_nonzero, named_nonzero}
use Rattle.conda_encode.proofs.write.write_needed_entry.Goals as goal

pub clause_of-requires-clause-rest : goal.clause_of-requires-clause-rest
clause_of-requires-clause-rest c =
    list_nonzero c.as_slice.result.now _
    (list_named c.args.pools.now c.args.spec.now c.split.new.self c.in_ok-at.at c.index.result.now c.as_slice.result.now c.in_ok-at.ensures.split c.index.ensures c.as_slice.ensures.value)
    (named_nonzero c.args.pools.now c.args.spec.now)
