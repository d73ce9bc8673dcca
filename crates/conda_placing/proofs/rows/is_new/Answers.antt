use Rattle.conda_placing.proofs.PutLemmas.{one_path}
use Rattle.conda_placing.proofs.rows.is_new.Goals as goal

pub returns-clause-places : goal.returns-clause-places
returns-clause-places c = λ before has. rw (← c.in_ok-copy.ensures) (one_path _ _ _ before has c.in_ok-insert.ensures.updates)
