use Rattle.std.proofs.Common.{◌∙◌, sym, true≢false}
use Rattle.conda_encode.proofs.Marking.{covers_all, covers_more, grows_then, only_more}
use Rattle.conda_encode.proofs.marks.mark_all.Goals as goal
use Rattle.conda_encode.proofs.marks.mark_all.Goals.{then-mark_one, else-mark_one}

pub loop-literal-preserved : goal.loop-literal-preserved
loop-literal-preserved c =
    let i = c.loop-literal.literal-index in
    let was = c.loop-literal.invariant in
    let step = c.mark_one.ensures in
    record {
      grows = grows_then c.args.marks.now c.loop-literal.marks c.mark_one.new.marks was.grows step.grows;
      only = only_more c.args.model.now c.args.marks.now c.loop-literal.marks c.mark_one.new.marks c.args.literals.now i c.loop-literal-test.true was.only step.only;
      covers = covers_more c.args.model.now c.loop-literal.marks c.mark_one.new.marks _ c.args.literals.now i c.loop-literal-test.true c.requires.numbers was.covers step.grows step.covers;
      same = elim c.if-mark_one.branch [
        | then-mark_one w ↦ λ h. absurd (true≢false (sym w.changed-is ∙ h))
        | else-mark_one w ↦ λ h. step.same w.if-mark_one.false ∙ was.same (sym w.changed-is ∙ h)
      ];
    }

pub returns-clause-covers : goal.returns-clause-covers
returns-clause-covers c =
    covers_all c.args.model.now c.loop-literal.marks c.args.literals.now c.loop-literal.literal-index c.loop-literal-test.false c.loop-literal.invariant.covers
