use Rattle.std.proofs.Common.{inl, ◌∙◌}
use Rattle.conda_cli.proofs.LogLemmas.{line_found, log_found}
use Rattle.conda_cli.proofs.refuting.log_of.Goals as goal

pub returns-in-Ok : goal.returns-in-Ok
returns-in-Ok c =
    log_found c.args.bytes.items c.as_str.result.now c.in-Ok.log (c.as_str.ensures.value ∙ c.as_text-text.ensures)
    c.in-Ok.ensures.ok c.in-Ok.ensures.numbers c.in-Ok.ensures.only

pub returns-in-Err-BadLog : goal.returns-in-Err-BadLog
returns-in-Err-BadLog c =
    inl (line_found c.args.bytes.items c.as_str.result.now c.in-Err-BadLog.line (c.as_str.ensures.value ∙ c.as_text-text.ensures)
    (rw c.in-Err-BadLog.field-0-is at c.in-Err-BadLog.ensures.bad) (rw c.in-Err-BadLog.field-0-is at c.in-Err-BadLog.ensures.only))
