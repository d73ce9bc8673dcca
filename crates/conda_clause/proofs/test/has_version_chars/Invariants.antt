use Rattle.std.proofs.Common.{◌≡◌, drop}
use Rattle.std.specs.List.{list_all}
use Rattle.conda_clause.specs.Tests.{is_version_char}
use Rattle.conda_clause.proofs.test.has_version_chars.Given as goal

abbrev pub invariant-loop-b : goal.invariant-loop-b
invariant-loop-b l = list_all is_version_char (drop l.b-index l.text) ≡ list_all is_version_char l.text
