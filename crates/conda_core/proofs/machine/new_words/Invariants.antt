use Rattle.std.proofs.Common.{◌≡◌, map, take}
use Rattle.conda_core.specs.Machine.{new_word}
use Rattle.conda_core.proofs.machine.new_words.Given as goal

abbrev pub invariant-loop-is_ready : goal.invariant-loop-is_ready
invariant-loop-is_ready l = l.words.items ≡ map new_word (take l.is_ready-index l.ready)
