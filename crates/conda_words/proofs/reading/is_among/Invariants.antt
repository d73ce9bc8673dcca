use Rattle.std.proofs.Common.{◌≡◌, drop}
use Rattle.conda_words.specs.Says.{is_among}
use Rattle.conda_words.proofs.reading.is_among.Given as goal

-- the answer for those that are left is the answer for all
abbrev pub invariant-loop-text : goal.invariant-loop-text
invariant-loop-text l = is_among l.value (drop l.text-index l.texts) ≡ is_among l.value l.texts
