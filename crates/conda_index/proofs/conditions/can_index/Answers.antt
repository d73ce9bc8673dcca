use Rattle.conda_index.proofs.PartLemmas.{plain_parts}
use Rattle.conda_index.proofs.conditions.can_index.Goals as goal

pub returns-then-are_few-clause-plain : goal.returns-then-are_few-clause-plain
returns-then-are_few-clause-plain c = λ yes. (plain_parts c.args.parts.now).0 (c.parts_name_plainly.ensures.0 yes)

pub returns-then-are_few-clause-can : goal.returns-then-are_few-clause-can
returns-then-are_few-clause-can c = λ _ plain _. c.parts_name_plainly.ensures.1 ((plain_parts c.args.parts.now).1 plain)
