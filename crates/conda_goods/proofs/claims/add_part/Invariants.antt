use Rattle.std.proofs.Common.{◌≡◌, ◌++◌, drop, Some}
use Rattle.std.specs.Prelude.{map}
use Rattle.conda_goods.specs.Claims.{claimed, part_claims}
use Rattle.conda_goods.proofs.claims.add_part.Given as goal

-- the claims so far, and those on the goods that are left
abbrev pub invariant-loop-good : goal.invariant-loop-good
invariant-loop-good l =
    map claimed l.claims.items ++ map (λ good. (Some l.part.owner, good.path)) (drop l.good-index l.good-items)
    ≡ map claimed l.fn.claims.items ++ part_claims l.fn.part
