use Rattle.std.proofs.Common.{◌≡◌, ◌++◌, drop}
use Rattle.std.specs.Prelude.{map}
use Rattle.conda_goods.specs.Claims.{claimed, other_claims}
use Rattle.conda_goods.proofs.claims.add_others.Given as goal

-- the claims so far, and those on the paths that are left
abbrev pub invariant-loop-path : goal.invariant-loop-path
invariant-loop-path l =
    map claimed l.claims.items ++ other_claims (drop l.path-index l.others)
    ≡ map claimed l.fn.claims.items ++ other_claims l.fn.others
