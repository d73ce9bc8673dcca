use Rattle.std.proofs.Common.{◌≡◌, sym, subst}
use Rattle.conda_goods.specs.Conflicts.{OwnersRepeatNoPath}
use Rattle.rows_environments.proofs.goods.joined.Goals as goal

pub union-requires : goal.union-requires
union-requires c =
    subst OwnersRepeatNoPath (sym c.as_slice.ensures.value) (rw c.in-Some-Some.is-0 at c.in_ok-read_parts.ensures)
