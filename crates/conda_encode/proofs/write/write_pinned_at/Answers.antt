use Rattle.conda_encode.proofs.Nonzero.{barred_nonzero, list_barred, list_nonzero}
use Rattle.conda_encode.proofs.write.write_pinned_at.Goals as goal

pub write_pinned_literals-requires : goal.write_pinned_literals-requires
write_pinned_literals-requires c =
    list_nonzero c.as_slice.result.now _
    (list_barred c.args.pools.now c.args.item.now.spec c.split.new.self c.in_ok-at-in-Pinned.at c.index.result.now c.as_slice.result.now c.in_ok-at-in-Pinned.ensures.split c.index.ensures c.as_slice.ensures.value)
    (barred_nonzero c.args.pools.now c.args.item.now.spec)
