use Rattle.conda_history.proofs.TurnLemmas.{history_ok}
use Rattle.conda_history.proofs.revision.History.read.Goals as goal

pub returns-in-Ok-clause-good : goal.returns-in-Ok-clause-good
returns-in-Ok-clause-good c =
    c.grammar_laws.ensures.good c.args.bytes.now (record { blocks = c.in-Ok.blocks })
    (history_ok c.args.bytes.now c.in-Ok.blocks c.in-Ok.ensures)
