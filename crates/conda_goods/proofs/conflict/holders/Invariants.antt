use Rattle.std.proofs.Common.{◌≡◌, ℕ, List, drop}
use Rattle.std.specs.Prelude.{map, ◌||◌}
use Rattle.std.specs.BTreeMap.{get_by}
use Rattle.std.specs.Cmp.Lexicographic.{slice_cmp}
use Rattle.std.specs.Ordering.{nat_cmp}
use Rattle.conda_goods.specs.Claims.{claimed, held_by_other, other_has}
use Rattle.conda_goods.specs.Conflicts.{Holder}
use Rattle.conda_goods.proofs.conflict.holders.Given as goal

-- another holder has a path by what was noted, or by the claims that are left
abbrev pub invariant-loop-claim : goal.invariant-loop-claim
invariant-loop-claim l = (path : List ℕ) (holder : Holder) →
    (held_by_other holder (get_by (λ k. slice_cmp nat_cmp path k.now) l.at)
    || other_has (map claimed (drop l.claim-index l.claims)) holder path)
    ≡ other_has (map claimed l.claims) holder path
