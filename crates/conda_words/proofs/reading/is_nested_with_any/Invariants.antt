use Rattle.std.proofs.Common.{◌≡◌, drop}
use Rattle.std.specs.List.{list_any}
use Rattle.conda_words.specs.Says.{is_nested}
use Rattle.conda_words.proofs.reading.is_nested_with_any.Given as goal

-- the answer for those that are left is the answer for all
abbrev pub invariant-loop-other : goal.invariant-loop-other
invariant-loop-other l =
    list_any (is_nested l.prefix) (drop l.other-index l.known) ≡ list_any (is_nested l.prefix) l.known
