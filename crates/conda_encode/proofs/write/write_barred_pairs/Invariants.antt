use Rattle.std.proofs.Common.{◌≡◌, ◌++◌, filter, map, take}
use Rattle.conda_encode.specs.Clauses.{barred_pair, is_other}
use Rattle.conda_encode.proofs.write.write_barred_pairs.Given as goal

abbrev pub invariant-loop-literal : goal.invariant-loop-literal
invariant-loop-literal l = l.written ≡ l.initial.written ++ map (barred_pair l.rec l.entry) (filter (is_other l.rec) (take l.literal-index l.barred))
