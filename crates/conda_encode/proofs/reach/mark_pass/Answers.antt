use Rattle.std.proofs.Common.{◌<◌, ◌≤◌, ◌∙◌, sym, arith, length, true≢false, refl}
use Rattle.conda_record.specs.declared.pkg_record.PkgRecord.{PkgRecord}
use Rattle.conda_encode.specs.Variables.{records}
use Rattle.conda_encode.proofs.Lent.{lent_at, lent_length, lent_plain}
use Rattle.conda_encode.proofs.Marking.{grows_then}
use Rattle.conda_encode.proofs.Reaching.{all_needs_marked, one_more_marked, record_at}
use Rattle.conda_encode.proofs.reach.mark_pass.Goals as goal
use Rattle.conda_encode.proofs.reach.mark_pass.Goals.{then-branch, else-branch}

pub mark_needs-requires-clause-record : goal.mark_needs-requires-clause-record
mark_needs-requires-clause-record c =
    let recs = records c.args.pools.now in
    let lt : c.loop-at.at < length recs = omega (arith, c.loop-at-test.true, lent_length c.args.recs.now recs c.requires.recs) in
    record_at recs c.loop-at.at c.index-recs-at.result.now lt (lent_at c.args.recs.now recs c.loop-at.at c.index-recs-at.result c.requires.recs c.loop-at-test.true c.index-recs-at.is)

pub mark_needs-requires-clause-plain : goal.mark_needs-requires-clause-plain
mark_needs-requires-clause-plain c =
    lent_plain (λ (p : PkgRecord). p.depends) c.args.recs.now (records c.args.pools.now) c.loop-at.at c.index-recs-at.result c.index-recs-at.result.now.depends c.requires.recs c.loop-at-test.true
    c.index-recs-at.is refl c.requires.plain

pub loop-at-preserved : goal.loop-at-preserved
loop-at-preserved c =
    let recs = records c.args.pools.now in
    let lt : c.loop-at.at < length recs = omega (arith, c.loop-at-test.true, lent_length c.args.recs.now recs c.requires.recs) in
    let was = c.loop-at.invariant in
    let step = c.in_ok-mark_needs.ensures in
    record {
      known = step.known;
      grows = grows_then c.args.marks.now c.loop-at.marks c.mark_needs.new.marks was.grows step.grows;
      sound = step.sound;
      marked = one_more_marked c.args.pools.now c.args.model.now c.args.marks.now c.loop-at.marks c.mark_needs.new.marks recs c.loop-at.at c.index-recs-at.result.now lt
          (lent_at c.args.recs.now recs c.loop-at.at c.index-recs-at.result c.requires.recs c.loop-at-test.true c.index-recs-at.is)
          was.marked was.grows step.grows step.marked;
      same = elim c.if-branch.branch [
        | then-branch w ↦ λ h. absurd (true≢false (sym w.changed-is ∙ h))
        | else-branch w ↦ λ h. step.same w.if-branch.false ∙ was.same (sym w.changed-is ∙ h)
      ];
    }

pub returns-clause-marked : goal.returns-clause-marked
returns-clause-marked c =
    let recs = records c.args.pools.now in
    let far : length recs ≤ c.loop-at.at = omega (arith, c.loop-at-test.false, lent_length c.args.recs.now recs c.requires.recs) in
    all_needs_marked c.args.pools.now c.args.model.now c.args.marks.now c.loop-at.marks recs c.loop-at.at far c.loop-at.invariant.marked
