use Rattle.std.specs.Prelude.{◌≡◌, ◌++◌, flat_map, drop, string_bytes}
use Rattle.conda_cli.specs.Report.{dist_line, list_text}
use Rattle.conda_cli.proofs.report.list_report.Given as goal

-- the text so far, and the lines of what is left
abbrev pub invariant-loop-dist : goal.invariant-loop-dist
invariant-loop-dist l = string_bytes l.text ++ flat_map dist_line (drop l.dist-index l.dists) ≡ list_text l.fn.prefix l.dists
