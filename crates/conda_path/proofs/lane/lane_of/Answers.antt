use Rattle.conda_path.proofs.LaneLemmas.{number_in_trash, sum_elsewhere}
use Rattle.conda_path.proofs.lane.lane_of.Goals as goal

pub returns-clause-trash : goal.returns-clause-trash
returns-clause-trash c = λ n k h. let e = number_in_trash c.args.path.now k (c.trash_laws.ensures.number c.args.path.now n k h) in cc

pub returns-clause-other : goal.returns-clause-other
returns-clause-other c = λ h. let e = sum_elsewhere c.args.path.now (c.trash_laws.ensures.only c.args.path.now) h in cc
