use Rattle.std.proofs.Common.{◌≡◌, take}
use Rattle.conda_encode.specs.Marks.{marked_of}
use Rattle.conda_encode.specs.Variables.{records}
use Rattle.conda_encode.proofs.cut.picked.Given as goal

abbrev pub invariant-loop-at : goal.invariant-loop-at
invariant-loop-at l = l.set.items ≡ marked_of l.marks (take l.at (records l.pools))
