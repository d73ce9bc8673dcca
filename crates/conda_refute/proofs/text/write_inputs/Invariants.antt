use Rattle.std.proofs.Common.{◌≡◌, ◌++◌, flat_map, drop, string_bytes}
use Rattle.conda_refute.specs.LogText.{input_line}
use Rattle.conda_refute.proofs.text.write_inputs.Given as goal

abbrev pub invariant-loop-clause : goal.invariant-loop-clause
invariant-loop-clause l = string_bytes l.text ++ flat_map input_line (drop l.clause-index l.inputs) ≡ string_bytes l.fn.text ++ flat_map input_line l.inputs
