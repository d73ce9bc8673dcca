use Rattle.std.proofs.Common.{◌≡◌, drop, None}
use Rattle.std.specs.Prelude.{map, option_copied}
use Rattle.conda_goods.specs.Claims.{claimed, first_above}
use Rattle.conda_goods.proofs.conflict.first_owner.Given as goal

-- the first of the one so far and of the claims that are left
abbrev pub invariant-loop-claim : goal.invariant-loop-claim
invariant-loop-claim l =
    first_above l.path (option_copied l.except) (map claimed (drop l.claim-index l.claims)) (option_copied l.first)
    ≡ first_above l.path (option_copied l.except) (map claimed l.claims) None
