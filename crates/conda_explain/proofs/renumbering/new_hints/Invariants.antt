use Rattle.std.proofs.Common.{◌≡◌, map, take}
use Rattle.conda_explain.specs.Renumbered.{hint_among}
use Rattle.conda_explain.proofs.renumbering.new_hints.Given as goal

abbrev pub invariant-loop-hint : goal.invariant-loop-hint
invariant-loop-hint l = l.made ≡ map (hint_among l.numbers l.none) (take l.hint-index l.hints)
