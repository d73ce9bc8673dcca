use Rattle.conda_repodata.proofs.WalkLemmas.{halves}
use Rattle.conda_repodata.proofs.parts.read_halves.Goals as goal

pub returns : goal.returns
returns g c =
    let first = rw c.in_ok-first.was at c.join-first.ensures.first in
    let second = rw c.in_ok-second.was at c.join-first.ensures.second in
    halves _ _ _ _ _ _ _ _ c.joined.result c.split_at.ensures.front c.split_at.ensures.back first second c.joined.ensures
