use Rattle.std.proofs.Common.{◌≡◌, ◌^◌, drop}
use Rattle.conda_base.specs.Numbers.{digits_below}
use Rattle.conda_base.proofs.NumberLemmas.{number_from}
use Rattle.conda_base.proofs.number.digits_u64.Given as goal

-- the number for what is left is the number for all
abbrev pub invariant-loop-digit : goal.invariant-loop-digit
invariant-loop-digit l = number_from l.number (drop l.digit-index l.text) ≡ digits_below (2 ^ 64) l.text
