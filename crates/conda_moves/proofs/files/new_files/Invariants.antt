use Rattle.std.proofs.Common.{◌≡◌, map, take}
use Rattle.conda_moves.specs.Coming.{file_part}
use Rattle.conda_moves.proofs.files.new_files.Given as goal

abbrev pub invariant-loop-one : goal.invariant-loop-one
invariant-loop-one l = l.parts.items ≡ map file_part (take l.one-index l.revision.linked)
