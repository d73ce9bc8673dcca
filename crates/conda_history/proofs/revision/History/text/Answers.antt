use Rattle.std.proofs.Common.{ap, subst, ◌∙◌}
use Rattle.conda_history.specs.Reading.{history_read}
use Rattle.conda_history.specs.Texts.{AreTexts, history_text}
use Rattle.conda_history.proofs.revision.History.text.Goals as goal

pub returns-in-Ok-clause-again : goal.returns-in-Ok-clause-again
returns-in-Ok-clause-again c = λ good.
    ap history_read (c.from_vec.ensures ∙ c.in-Ok.ensures.text ∙ ap history_text c.as_slice.ensures)
    ∙ c.text_laws.ensures c.args.self.now.blocks good (subst AreTexts c.as_slice.ensures c.in-Ok.ensures.utf8)
