use Rattle.std.specs.Prelude.{codes}
use Rattle.std.proofs.lemmas.Str.Pattern.{starts_text}
use Rattle.conda_meta.proofs.good.is_in_meta.Goals as goal

pub returns : goal.returns
returns c = starts_text c.starts_with.result (codes "conda-meta/") c.args.path.now c.starts_with.ensures.cases
