use Rattle.std.proofs.Common.{◌∙◌, sym}
use Rattle.std.proofs.lemmas.Bool.{not-true}
use Rattle.conda_spec.proofs.ValueLemmas.{free_is}
use Rattle.conda_clause.specs.Spaces.{is_one_of}
use Rattle.conda_spec.proofs.values.is_free.Goals as goal

pub returns-then-text-gt0-clause-good : goal.returns-then-text-gt0-clause-good
returns-then-text-gt0-clause-good c =
    λ h. free_is (is_one_of c.args.barred.now) c.args.text.now c.if-text-gt0.true
    (sym c.holds_one_of.ensures ∙ not-true c.holds_one_of.result h)
