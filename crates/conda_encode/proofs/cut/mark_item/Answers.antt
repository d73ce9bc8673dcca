use Rattle.std.proofs.Common.{sym}
use Rattle.conda_encode.proofs.Reaching.{item_reaches}
use Rattle.conda_encode.proofs.cut.mark_item.Goals as goal

pub mark_named-requires-clause-reaches : goal.mark_named-requires-clause-reaches
mark_named-requires-clause-reaches c = item_reaches c.args.pools.now c.args.items.now c.args.model.now c.args.item.now c.requires.item (sym c.in-Wanted.is)
