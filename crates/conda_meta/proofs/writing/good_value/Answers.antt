use Rattle.conda_meta.proofs.writing.good_value.Goals as goal

pub returns-clause-again : goal.returns-clause-again
returns-clause-again c = record { path = c.as_str.ensures.rule; digest = c.digest_text.ensures.again }
