use Rattle.conda_cli.proofs.ListLemmas.{refused, reported}
use Rattle.conda_cli.specs.Answers.{IsRevisionsOf}
use Rattle.conda_cli.proofs.listing.revisions_of.Goals as goal

pub returns-in-Ok : goal.returns-in-Ok
returns-in-Ok c = λ text same.
    reported IsRevisionsOf c.args.prefix.now text c.in-Ok.history.blocks c.changes_of.result (c.in-Ok.ensures text same) c.changes_of.ensures

pub returns-in-Err : goal.returns-in-Err
returns-in-Err c = λ text same. refused IsRevisionsOf c.args.prefix.now text c.in-Err.fault (c.in-Err.ensures text same)
