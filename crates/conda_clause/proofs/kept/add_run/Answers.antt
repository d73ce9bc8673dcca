use Rattle.std.proofs.Common.{arith}
use Rattle.std.proofs.lemmas.Grind.{common_steps}
use Rattle.conda_clause.proofs.KeptLemmas.{marks_text}
use Rattle.conda_clause.proofs.kept.add_run.Goals as goal

pub returns-clause-text : goal.returns-clause-text
returns-clause-text c = grind (arith, common_steps, marks_text)
