use Rattle.std.proofs.Common.{◌≡◌, ◌++◌, map, take}
use Rattle.conda_encode.specs.Clauses.{needed_entry}
use Rattle.conda_encode.specs.Known.{IsKnown}
use Rattle.conda_encode.specs.Variables.{numbered}
use Rattle.conda_encode.proofs.write.write_needed_by.Given as goal

abbrev pub invariant-loop-entry : goal.invariant-loop-entry
invariant-loop-entry l = record {
  known : IsKnown l.pools l.known;
  written : l.written ≡ l.initial.written ++ map (needed_entry l.pools l.rec) (numbered 0 (take l.entry l.depends));
}
