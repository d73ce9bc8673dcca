use Rattle.std.proofs.Common.{lit≤}
use Rattle.conda_dev.specs.Hosts.{back_after_call}
use Rattle.rows_devices.proofs.dev.look_once.Goals as goal

pub take_back-requires : goal.take_back-requires
take_back-requires g c =
    back_after_call _ _ c.args.prefix.now 1 0 c.in-Ok.lanes.items c.index_mut.result.now c.look-seen.new.self _ _
    c.in-Ok.ensures.lent (lit≤ tt) c.in-Ok.ensures.lanes c.index_mut.ensures.value c.look-seen.ensures.share
