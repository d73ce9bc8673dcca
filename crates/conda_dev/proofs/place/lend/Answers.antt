use Rattle.std.proofs.Common.{◌∙◌}
use Rattle.conda_dev.proofs.PlaceLemmas.{apart}
use Rattle.conda_dev.proofs.place.lend.Goals as goal

pub returns-clause-others : goal.returns-clause-others
returns-clause-others c = λ other ne. c.in_ok-insert.ensures.updates.2 other (apart c.in_ok-copy.field-0 other (λ e. ne (e ∙ c.in_ok-copy.ensures)))
