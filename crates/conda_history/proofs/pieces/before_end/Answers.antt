use Rattle.conda_history.proofs.EndLemmas.{back_cases, back_space}
use Rattle.conda_history.proofs.pieces.before_end.Goals as goal

pub returns-in-Some : goal.returns-in-Some
returns-in-Some c = back_space c.args.also c.args.text.now c.in-Some.front.now c.in-Some.ensures

pub returns-in-None : goal.returns-in-None
returns-in-None c =
    back_cases c.args.also c.args.text.now c.before-in-None.result c.in-None.ensures c.before-in-None.ensures
