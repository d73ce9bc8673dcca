use Rattle.std.proofs.Common.{◌≡◌, drop}
use Rattle.conda_words.specs.Says.{is_among}
use Rattle.conda_words.proofs.reading.is_prefix_among.Given as goal

-- the answer for those that are left is the answer for all
abbrev pub invariant-loop-prefix : goal.invariant-loop-prefix
invariant-loop-prefix l = is_among l.value (drop l.prefix-index l.prefixes) ≡ is_among l.value l.prefixes
