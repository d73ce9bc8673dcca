use Rattle.conda_cli.proofs.ReportLemmas.{revision_put}
use Rattle.conda_cli.proofs.report.revisions_report.Goals as goal

pub loop-number-preserved : goal.loop-number-preserved
loop-number-preserved c = revision_put _ _ _ _ c.args.changes.now _ _ c.loop-number-test.true c.index-changes-number.is c.in_ok-push_revision.ensures c.loop-number.invariant
