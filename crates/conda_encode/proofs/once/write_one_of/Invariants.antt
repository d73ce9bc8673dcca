use Rattle.std.proofs.Common.{◌≡◌, ◌++◌, drop, length, take}
use Rattle.std.specs.List.{flat_map}
use Rattle.conda_encode.specs.Clauses.{one_at}
use Rattle.conda_encode.specs.Variables.{numbered}
use Rattle.conda_encode.proofs.once.write_one_of.Given as goal

abbrev pub invariant-loop-at : goal.invariant-loop-at
invariant-loop-at l = l.written ≡ l.initial.written ++ flat_map (one_at l.name l.number l.helper (length l.recs)) (numbered 0 (take l.at (drop 1 l.recs)))
