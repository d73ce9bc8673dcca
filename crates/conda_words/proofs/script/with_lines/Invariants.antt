use Rattle.std.proofs.Common.{◌≡◌, ◌+◌, drop}
use Rattle.conda_words.specs.Scripts.{with_lines}
use Rattle.conda_words.proofs.script.with_lines.Given as goal

-- what the lines that are left make of the script is what all make of the first
abbrev pub invariant-loop-i : goal.invariant-loop-i
invariant-loop-i l = with_lines (l.i + 1) l.script (drop l.i l.lines) ≡ with_lines 1 l.fn.script l.lines
