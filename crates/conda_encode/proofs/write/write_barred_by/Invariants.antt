use Rattle.std.proofs.Common.{◌≡◌, ◌++◌, take}
use Rattle.std.specs.List.{flat_map}
use Rattle.conda_encode.specs.Clauses.{barred_entry}
use Rattle.conda_encode.specs.Known.{IsKnown}
use Rattle.conda_encode.specs.Variables.{numbered}
use Rattle.conda_encode.proofs.write.write_barred_by.Given as goal

abbrev pub invariant-loop-entry : goal.invariant-loop-entry
invariant-loop-entry l = record {
  known : IsKnown l.pools l.known;
  written : l.written ≡ l.initial.written ++ flat_map (barred_entry l.pools l.rec) (numbered 0 (take l.entry l.constrains));
}
