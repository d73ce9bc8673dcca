use Rattle.std.proofs.Common.{◌≡◌, ◌++◌, take}
use Rattle.std.specs.List.{flat_map}
use Rattle.conda_encode.specs.Clauses.{needed_by}
use Rattle.conda_encode.specs.Known.{IsKnown}
use Rattle.conda_encode.specs.Variables.{numbered, records}
use Rattle.conda_encode.proofs.write.write_needed.Given as goal

abbrev pub invariant-loop-at : goal.invariant-loop-at
invariant-loop-at l = record {
  known : IsKnown l.pools l.known;
  written : l.written ≡ l.initial.written ++ flat_map (needed_by l.pools) (numbered 1 (take l.at (records l.pools)));
}
