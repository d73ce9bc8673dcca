use Rattle.std.proofs.Common.{◌≡◌, ◌++◌, drop, string_bytes}
use Rattle.conda_refute.specs.LogText.{hints_text}
use Rattle.conda_refute.proofs.text.write_hints.Given as goal

abbrev pub invariant-loop-hint : goal.invariant-loop-hint
invariant-loop-hint l = string_bytes l.text ++ hints_text (drop l.hint-index l.hints) ≡ string_bytes l.fn.text ++ hints_text l.hints
