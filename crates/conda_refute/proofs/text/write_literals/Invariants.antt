use Rattle.std.proofs.Common.{◌≡◌, ◌++◌, drop, string_bytes}
use Rattle.conda_refute.specs.LogText.{literals_text}
use Rattle.conda_refute.proofs.text.write_literals.Given as goal

abbrev pub invariant-loop-literal : goal.invariant-loop-literal
invariant-loop-literal l = string_bytes l.text ++ literals_text (drop l.literal-index l.literals) ≡ string_bytes l.fn.text ++ literals_text l.literals
