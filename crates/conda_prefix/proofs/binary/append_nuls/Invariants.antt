use Rattle.std.specs.Prelude.{◌≡◌, ◌++◌, replicate}
use Rattle.conda_prefix.proofs.binary.append_nuls.Given as goal

abbrev pub invariant-loop : goal.invariant-loop
invariant-loop l = l.made.items ≡ l.initial.made.items ++ replicate l.counter 0
