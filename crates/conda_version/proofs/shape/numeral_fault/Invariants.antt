use Rattle.std.proofs.Common.{◌≡◌, ◌≤◌, ◌+◌, drop, length}
use Rattle.std.specs.Char.{is_ascii_digit}
use Rattle.std.specs.List.{prefix_len}
use Rattle.conda_version.specs.Grammar.{numeral_from}
use Rattle.conda_version.proofs.shape.numeral_fault.Given as goal

abbrev pub invariant-loop-at : goal.invariant-loop-at
invariant-loop-at l =
    (l.digits + l.at ≤ length l.text) × (l.digits ≡ prefix_len is_ascii_digit (drop l.at l.text))
    × (l.found ≡ numeral_from l.at (drop l.at l.text))
