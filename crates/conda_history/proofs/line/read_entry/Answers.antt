use Rattle.conda_history.proofs.LineLemmas.{entry_minus, entry_plus, said_as}
use Rattle.conda_history.proofs.line.read_entry.Goals as goal

pub returns-in-Some : goal.returns-in-Some
returns-in-Some c = said_as c.read_removed.result _ _ (entry_minus c.args.text.now _ c.in-Some.ensures) c.read_removed.ensures

pub returns-in-Some-behind : goal.returns-in-Some-behind
returns-in-Some-behind c =
    said_as c.read_added.result _ _ (entry_plus c.args.text.now _ c.in-Some-behind.ensures) c.read_added.ensures
