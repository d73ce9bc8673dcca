use Rattle.std.proofs.Common.{◌≡◌, ◌++◌, drop}
use Rattle.std.specs.Prelude.{map}
use Rattle.conda_goods.specs.Claims.{claimed, claims_of}
use Rattle.conda_goods.proofs.claims.all_claims.Given as goal

-- the claims so far, and those of the parts that are left and of the others
abbrev pub invariant-loop-part : goal.invariant-loop-part
invariant-loop-part l =
    map claimed l.claims.items ++ claims_of (drop l.part-index l.parts) l.others ≡ claims_of l.parts l.others
