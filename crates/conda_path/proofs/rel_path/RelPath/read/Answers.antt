use Rattle.std.proofs.Common.{arith}
use Rattle.std.proofs.lemmas.Grind.{common_steps}
use Rattle.conda_path.proofs.PathLemmas.{path_none, path_place, path_rule}
use Rattle.conda_path.proofs.rel_path.RelPath.read.Goals as goal

pub returns-in-Some-clause-bad : goal.returns-in-Some-clause-bad
returns-in-Some-clause-bad c = path_place _ _ (cc)

pub returns-in-Some-clause-only : goal.returns-in-Some-clause-only
returns-in-Some-clause-only c = λ r. let e = path_none _ r in absurd (cc)

pub returns-in-Ok-clause-ok : goal.returns-in-Ok-clause-ok
returns-in-Ok-clause-ok c = path_rule _ (grind (arith, common_steps))
