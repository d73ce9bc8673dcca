use Rattle.std.proofs.Common.{ap, lit≤, ◌∙◌}
use Rattle.conda_dev.specs.Hosts.{back_after_call, lent_and_returned}
use Rattle.conda_dev.specs.Lanes.{map_write}
use Rattle.conda_dev.specs.Tree.{together}
use Rattle.conda_cli.proofs.history_file.read_first.Goals as goal

pub returns-clause-trees : goal.returns-clause-trees
returns-clause-trees g c =
    let back = c.take_back.ensures in
    let written =
    map_write g.H.Lane.Lane.told c.in-Ok.lanes.items 0 c.index_mut.result.now c.read-read.new.self c.read-read.ensures.tree
    c.index_mut.ensures.value in
    lent_and_returned c.args.prefix.now _ _ _ c.lanes.ensures.others back.others (back.tree ∙ ap together written ∙ c.in-Ok.ensures.tree)

pub take_back-requires : goal.take_back-requires
take_back-requires g c =
    back_after_call _ _ c.args.prefix.now 1 0 c.in-Ok.lanes.items c.index_mut.result.now c.read-read.new.self _ _
    c.in-Ok.ensures.lent (lit≤ tt) c.in-Ok.ensures.lanes c.index_mut.ensures.value c.read-read.ensures.share
