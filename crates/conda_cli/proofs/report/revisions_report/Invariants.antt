use Rattle.std.specs.Prelude.{◌≡◌, ◌++◌, drop, string_bytes}
use Rattle.conda_cli.specs.Report.{revisions_from, revisions_text}
use Rattle.conda_cli.proofs.report.revisions_report.Given as goal

-- the text so far, and the lines of what is left
abbrev pub invariant-loop-number : goal.invariant-loop-number
invariant-loop-number l = string_bytes l.text ++ revisions_from l.number (drop l.number l.changes) ≡ revisions_text l.changes
