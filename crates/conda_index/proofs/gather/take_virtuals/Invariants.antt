use Rattle.std.proofs.Common.{◌≡◌, ◌++◌}
use Rattle.conda_index.specs.Gather.{virtual_records}
use Rattle.conda_index.proofs.gather.take_virtuals.Given as goal

abbrev pub invariant-loop-virtual_package : goal.invariant-loop-virtual_package
invariant-loop-virtual_package l = l.records.items ≡ l.fn.records.items ++ virtual_records l.yielded
