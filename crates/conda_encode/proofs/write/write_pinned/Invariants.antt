use Rattle.std.proofs.Common.{◌≡◌, ◌++◌, take}
use Rattle.conda_encode.specs.Clauses.{pinned}
use Rattle.conda_encode.specs.Known.{IsKnown}
use Rattle.conda_encode.proofs.write.write_pinned.Given as goal

abbrev pub invariant-loop-place : goal.invariant-loop-place
invariant-loop-place l = record {
  known : IsKnown l.pools l.known;
  written : l.written ≡ l.initial.written ++ pinned l.pools (take l.place l.items);
}
