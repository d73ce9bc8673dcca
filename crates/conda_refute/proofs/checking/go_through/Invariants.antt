use Rattle.std.proofs.Common.{◌≡◌, drop}
use Rattle.conda_refute.specs.Refutation.{clauses_of, hints_end}
use Rattle.conda_refute.proofs.checking.go_through.Given as goal

abbrev pub invariant-loop-hint : goal.invariant-loop-hint
invariant-loop-hint l = hints_end (clauses_of l.inputs l.before) (drop l.hint-index l.hints) l.falses ≡ hints_end (clauses_of l.inputs l.before) l.hints l.fn.falses
