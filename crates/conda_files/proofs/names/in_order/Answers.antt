use Rattle.std.proofs.Common.{nat_eq, subst, sym}
use Rattle.std.specs.Cmp.Lexicographic.{pointwise}
use Rattle.std.proofs.lemmas.List.Filters.{dedup_is}
use Rattle.conda_base.specs.Texts.{Ascending}
use Rattle.conda_files.proofs.WalkLemmas.{once_sorted}
use Rattle.conda_files.proofs.names.in_order.Goals as goal

pub returns : goal.returns
returns c =
    let once = dedup_is (pointwise nat_eq) c.sort.new.self.items c.dedup.new.self.items c.dedup.ensures.filtered in
    subst Ascending (sym once) (once_sorted c.sort.new.self.items (c.in_ok-sort.ensures.sorted))
