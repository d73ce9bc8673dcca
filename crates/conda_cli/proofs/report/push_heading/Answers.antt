use Rattle.std.proofs.Common.{arith}
use Rattle.conda_cli.proofs.ReportLemmas.{four_pieces}
use Rattle.conda_cli.proofs.report.push_heading.Goals as goal

pub returns : goal.returns
returns c =
    four_pieces _ _ _ _ _ _ _ _ _ (omega arith) (omega arith) c.in_ok-write.ensures.bytes c.in_ok-push.ensures.bytes c.in_ok-push_text.ensures
    c.in_ok-push-2.ensures.bytes
