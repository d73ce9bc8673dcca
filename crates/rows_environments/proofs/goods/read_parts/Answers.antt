use Rattle.std.proofs.Common.{sym, subst, ◌∙◌}
use Rattle.conda_goods.proofs.Holders.{same_owner_is}
use Rattle.conda_goods.specs.Claims.{same_owner}
use Rattle.conda_goods.specs.Conflicts.{OwnersRepeatNoPath, ShareNoPath}
use Rattle.conda_goods.specs.declared.owned.Owned.{Owned}
use Rattle.conda_goods.specs.declared.owner.Owner.{Owner}
use Rattle.rows_environments.proofs.Apart.{pushed}
use Rattle.rows_environments.proofs.goods.read_parts.Goals as goal

pub loop-text-preserved : goal.loop-text-preserved
loop-text-preserved c =
    let owner_of : Owned → Owner = λ part. part.owner in
    let none = rw c.as_slice.ensures.value at (sym c.has_owner.ensures ∙ c.if-has_owner.false) in
    subst OwnersRepeatNoPath (sym c.in_ok-push.ensures.items)
    (pushed owner_of same_owner (λ a b e. (same_owner_is a b).1 e) ShareNoPath c.loop-text.parts.items _ c.loop-text.invariant none)
