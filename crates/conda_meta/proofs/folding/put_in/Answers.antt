use Rattle.std.proofs.Common.{◌∙◌}
use Rattle.conda_meta.specs.Folds.{held}
use Rattle.conda_meta.proofs.FoldLemmas.{held_after, last_step}
use Rattle.conda_meta.proofs.folding.put_in.Goals as goal

pub loop-package-preserved : goal.loop-package-preserved
loop-package-preserved c = λ dist.
    last_step c.args.revision.now.linked c.as_slice-package-items.result.now c.loop-package.package-index c.package-item.result c.text.result.now dist
    (held c.loop-package.present dist) (held c.insert.new.self dist) c.as_slice-package-items.ensures c.package-item.is c.loop-package-test.true c.text.ensures.same
    (held_after c.text.result.now c.loop-package.present c.insert.new.self _ c.in_ok-insert.ensures.updates dist)
    ∙ c.loop-package.invariant dist
