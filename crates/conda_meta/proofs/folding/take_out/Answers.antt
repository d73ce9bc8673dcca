use Rattle.std.proofs.Common.{◌∙◌, None}
use Rattle.conda_meta.specs.Folds.{held}
use Rattle.conda_meta.proofs.FoldLemmas.{held_after, unless_step}
use Rattle.conda_meta.proofs.folding.take_out.Goals as goal

pub loop-dist-preserved : goal.loop-dist-preserved
loop-dist-preserved c = λ dist.
    unless_step c.args.revision.now.unlinked c.as_slice-dist-items.result.now c.loop-dist.dist-index c.dist-item.result c.text.result.now dist
    (held c.loop-dist.present dist) (held c.remove.new.self dist) c.as_slice-dist-items.ensures c.dist-item.is c.loop-dist-test.true c.text.ensures.same
    (held_after c.text.result.now c.loop-dist.present c.remove.new.self None c.remove.ensures.updates dist)
    ∙ c.loop-dist.invariant dist
