use Rattle.std.proofs.Common.{◌≡◌, ◌++◌, map, take}
use Rattle.conda_encode.specs.Clauses.{pinned_literal}
use Rattle.conda_encode.proofs.write.write_pinned_literals.Given as goal

abbrev pub invariant-loop-literal : goal.invariant-loop-literal
invariant-loop-literal l = l.written ≡ l.initial.written ++ map (pinned_literal l.place) (take l.literal-index l.barred)
