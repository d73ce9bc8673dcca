use Rattle.std.proofs.Common.{◌≡◌, ◌+◌, drop}
use Rattle.std.specs.Bool.{beq}
use Rattle.std.specs.Char.{is_ascii_digit}
use Rattle.std.specs.List.{prefix_len}
use Rattle.conda_version.specs.Grammar.{run_len}
use Rattle.conda_version.specs.Versions.{begins_with_digit}
use Rattle.conda_version.proofs.build.run_len.Given as goal

abbrev pub invariant-loop-at : goal.invariant-loop-at
invariant-loop-at l = l.at + prefix_len (λ c. beq (begins_with_digit l.bytes) (is_ascii_digit c)) (drop l.at l.bytes) ≡ run_len l.bytes
