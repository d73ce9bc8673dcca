use Rattle.std.specs.Prelude.{◌≡◌, ◌++◌, drop, map, take}
use Rattle.conda_cli.specs.Refuting.{as_ascii}
use Rattle.conda_cli.proofs.refuting.make_ascii.Given as goal

-- the bytes so far are changed, and those that are left aren't yet
abbrev pub invariant-loop-byte : goal.invariant-loop-byte
invariant-loop-byte l = l.bytes ≡ map as_ascii (take l.byte-index l.fn.bytes) ++ drop l.byte-index l.fn.bytes
