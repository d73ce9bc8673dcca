use Rattle.std.proofs.Common.{◌≡◌, string_bytes, take}
use Rattle.conda_requests.specs.Report as reports
use Rattle.conda_requests.proofs.report.records_text.Given as goal

abbrev pub invariant-loop-pkg : goal.invariant-loop-pkg
invariant-loop-pkg l = string_bytes l.text ≡ reports.records_text (take l.pkg-index l.records)
