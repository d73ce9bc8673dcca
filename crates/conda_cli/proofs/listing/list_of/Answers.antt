use Rattle.conda_cli.proofs.ListLemmas.{refused, reported}
use Rattle.conda_cli.specs.Answers.{IsReportOf}
use Rattle.conda_cli.proofs.listing.list_of.Goals as goal

pub returns-in-Ok : goal.returns-in-Ok
returns-in-Ok c = λ text same.
    reported (IsReportOf c.args.prefix.now) c.args.prefix.now text c.in-Ok.history.blocks c.report_of.result (c.in-Ok.ensures text same) c.report_of.ensures

pub returns-in-Err : goal.returns-in-Err
returns-in-Err c = λ text same. refused (IsReportOf c.args.prefix.now) c.args.prefix.now text c.in-Err.fault (c.in-Err.ensures text same)
