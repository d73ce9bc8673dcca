use Rattle.conda_history.proofs.EndLemmas.{front_cases, front_space}
use Rattle.conda_history.proofs.pieces.behind_end.Goals as goal

pub returns-in-Some : goal.returns-in-Some
returns-in-Some c = front_space c.args.also c.args.text.now c.in-Some.rest.now c.in-Some.ensures

pub returns-in-None : goal.returns-in-None
returns-in-None c =
    front_cases c.args.also c.args.text.now c.behind-in-None.result c.in-None.ensures c.behind-in-None.ensures
