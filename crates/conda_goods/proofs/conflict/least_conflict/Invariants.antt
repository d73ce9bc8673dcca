use Rattle.std.proofs.Common.{◌≡◌, drop, None}
use Rattle.std.specs.Prelude.{map, option_copied}
use Rattle.conda_goods.specs.Claims.{claimed, least_meeting}
use Rattle.conda_goods.proofs.conflict.least_conflict.Given as goal

-- the least of the one so far and of the claims that are left
abbrev pub invariant-loop-claim : goal.invariant-loop-claim
invariant-loop-claim l =
    least_meeting (map claimed l.claims) (map claimed (drop l.claim-index l.claims)) (option_copied l.least)
    ≡ least_meeting (map claimed l.claims) (map claimed l.claims) None
