use Rattle.std.proofs.Common.{ap, ◌∙◌}
use Rattle.std.specs.FinMap as map
use Rattle.conda_dev.proofs.TreeLemmas.{one_erased}
use Rattle.conda_dev.proofs.tree.Tree.erase.Goals as goal

pub returns : goal.returns
returns c =
    one_erased c.self.inside.nodes.entries c.remove.new.self.entries c.args.path.now c.remove.ensures.updates.0
    ∙ ap (λ tree. map.remove tree c.args.path.now) c.self.view_is
