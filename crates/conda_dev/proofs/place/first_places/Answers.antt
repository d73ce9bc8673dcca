use Rattle.conda_dev.proofs.PlaceLemmas.{one_put}
use Rattle.conda_dev.proofs.place.first_places.Goals as goal

pub loop-prefix-preserved : goal.loop-prefix-preserved
loop-prefix-preserved c =
    let made = c.in_ok-first_place.ensures in
    one_put _ _ _ _ _ _ _ _ c.in-Some.ensures.steps.0 c.in_ok-insert.ensures.updates.0 made.tree made.free c.loop-prefix.invariant

pub loop-prefix-preserved-in_ok-insert : goal.loop-prefix-preserved-in_ok-insert
loop-prefix-preserved-in_ok-insert c =
    let made = c.in_ok-first_place.ensures in
    one_put _ _ _ _ _ _ _ _ c.in-Some.ensures.steps.0 c.in_ok-insert.ensures.updates.0 made.tree made.free c.loop-prefix.invariant
