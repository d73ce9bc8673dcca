use Rattle.std.specs.Prelude.{codes}
use Rattle.conda_path.proofs.LaneLemmas.{behind_front}
use Rattle.conda_path.proofs.lane.in_trash.Goals as goal

pub returns : goal.returns
returns c = behind_front (codes "conda-meta/.trash/") c.args.path.now c.strip_prefix.result c.strip_prefix.ensures.cases
