use Rattle.std.proofs.Common.{nat_eq, subst, ◌∙◌}
use Rattle.std.specs.Cmp.Lexicographic.{pointwise}
use Rattle.std.proofs.lemmas.List.Filters.{dedup_is}
use Rattle.conda_device.specs.Channels.{Files, ListsFolders}
use Rattle.conda_mem.proofs.NamesLemmas.{once_lists, once_sorted}
use Rattle.conda_mem.proofs.files.Files.folders.Goals as goal

pub returns-clause-ascending : goal.returns-clause-ascending
returns-clause-ascending c =
    once_sorted c.sort.new.self.items _ (dedup_is (pointwise nat_eq) c.sort.new.self.items c.dedup.new.self.items c.dedup.ensures.filtered) c.in_ok-sort.ensures.sorted

pub returns-clause-names : goal.returns-clause-names
returns-clause-names c =
    let P : Files → Type 0 = λ all. ListsFolders all c.args.subdir.now c.dedup.new.self.items in
    subst P (c.deref.ensures ∙ c.self.view_is)
    (once_lists _ _ c.in_ok-names.names.items c.sort.new.self.items _ c.sort.ensures.permutation (dedup_is (pointwise nat_eq) c.sort.new.self.items c.dedup.new.self.items c.dedup.ensures.filtered) c.in_ok-names.ensures)
