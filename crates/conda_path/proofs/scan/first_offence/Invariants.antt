use Rattle.std.proofs.Common.{◌≡◌, ◌+◌, drop, true}
use Rattle.conda_path.specs.Bytes.{is_bad_of}
use Rattle.conda_path.specs.Paths.{first_offence}
use Rattle.conda_path.proofs.scan.first_offence.Given as goal

-- the answer for what is left is the answer for all
abbrev pub invariant-loop-offset : goal.invariant-loop-offset
invariant-loop-offset l =
    first_offence (is_bad_of l.bad) l.begins (l.start + l.offset) (drop l.offset l.path) ≡ first_offence (is_bad_of l.bad) true l.start l.path
