use Rattle.std.proofs.Common.{◌∙◌, sym, true≢false}
use Rattle.conda_encode.proofs.Marking.{grows_then}
use Rattle.conda_encode.proofs.Reaching.{marked_all, marked_more}
use Rattle.conda_encode.proofs.reach.mark_each.Goals as goal
use Rattle.conda_encode.proofs.reach.mark_each.Goals.{then-branch, else-branch}

pub loop-spec-preserved : goal.loop-spec-preserved
loop-spec-preserved c =
    let was = c.loop-spec.invariant in
    let step = c.in_ok-mark_named.ensures in
    record {
      known = step.known;
      grows = grows_then c.args.marks.now c.loop-spec.marks c.mark_named.new.marks was.grows step.grows;
      sound = step.sound;
      marked = marked_more c.args.pools.now c.args.model.now c.loop-spec.marks c.mark_named.new.marks c.args.specs.now c.loop-spec.spec-index c.spec-item.result c.loop-spec-test.true
          (sym c.spec-item.is) was.marked step.grows step.marked;
      same = elim c.if-branch.branch [
        | then-branch w ↦ λ h. absurd (true≢false (sym w.changed-is ∙ h))
        | else-branch w ↦ λ h. step.same w.if-branch.false ∙ was.same (sym w.changed-is ∙ h)
      ];
    }

pub returns-clause-marked : goal.returns-clause-marked
returns-clause-marked c =
    marked_all c.args.pools.now c.args.model.now c.loop-spec.marks c.args.specs.now c.loop-spec.spec-index c.loop-spec-test.false c.loop-spec.invariant.marked
