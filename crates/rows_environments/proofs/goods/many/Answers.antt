use Rattle.std.proofs.Common.{◌≡◌, sym, subst}
use Rattle.conda_goods.specs.Conflicts.{OwnersRepeatNoPath}
use Rattle.rows_environments.proofs.goods.many.Goals as goal

pub union-requires : goal.union-requires
union-requires c =
    subst OwnersRepeatNoPath (sym c.as_slice-2.ensures.value) (rw c.in-Some.is at c.in_ok-parts.ensures)
