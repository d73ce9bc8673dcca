use Rattle.std.proofs.Common.{◌≡◌, ◌++◌, flat_map, drop, string_bytes}
use Rattle.conda_refute.specs.LogText.{step_line}
use Rattle.conda_refute.proofs.text.write_steps.Given as goal

abbrev pub invariant-loop-step : goal.invariant-loop-step
invariant-loop-step l = string_bytes l.text ++ flat_map step_line (drop l.step-index l.steps) ≡ string_bytes l.fn.text ++ flat_map step_line l.steps
