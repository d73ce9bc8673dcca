use Rattle.std.proofs.Common.{◌≡◌, ◌+◌, ◌++◌, drop, length, take}
use Rattle.std.specs.List.{sum_by}
use Rattle.conda_encode.specs.Clauses.{ones}
use Rattle.conda_encode.specs.Variables.{helpers_of, records}
use Rattle.conda_encode.proofs.once.write_ones.Given as goal

abbrev pub invariant-loop-pool : goal.invariant-loop-pool
invariant-loop-pool l = record {
  written : l.written ++ ones l.number l.helper (drop l.pool-index l.pools) ≡ l.initial.written ++ ones 1 l.first l.pools;
  number : l.number ≡ 1 + length (records (take l.pool-index l.pools));
  helper : l.helper ≡ l.first + sum_by helpers_of (take l.pool-index l.pools);
}
