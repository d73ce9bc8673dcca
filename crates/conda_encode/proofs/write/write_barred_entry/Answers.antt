use Rattle.conda_encode.proofs.Nonzero.{barred_nonzero, list_barred, list_nonzero}
use Rattle.conda_encode.proofs.write.write_barred_entry.Goals as goal

pub write_barred_pairs-requires-clause-barred : goal.write_barred_pairs-requires-clause-barred
write_barred_pairs-requires-clause-barred c =
    list_nonzero c.as_slice.result.now _
    (list_barred c.args.pools.now c.args.spec.now c.split.new.self c.in_ok-at.at c.index.result.now c.as_slice.result.now c.in_ok-at.ensures.split c.index.ensures c.as_slice.ensures.value)
    (barred_nonzero c.args.pools.now c.args.spec.now)
