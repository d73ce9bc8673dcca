use Rattle.std.proofs.Common.{rules, ◌∙◌}
use Rattle.std.proofs.lemmas.Cmp.{nat_list_cmp_total}
use Rattle.std.proofs.lemmas.Fn.{dedup_same}
use Rattle.std.proofs.lemmas.Map.Lookups.{exact_bytes}
use Rattle.std.specs.Prelude.{nat_eq}
use Rattle.std.specs.Cmp.Lexicographic.{pointwise, texts_ties}
use Rattle.conda_repodata.specs.Entries.{dist_of}
use Rattle.conda_repodata.proofs.AscendingLemmas.{sorted_by, sorted_once}
use Rattle.conda_repodata.proofs.order.put_by_dist.Goals as goal

pub returns : goal.returns
returns c =
    let sorted = sorted_by nat_list_cmp_total dist_of c.args.records.now.items c.sort_by.new.self.items
    c.in_ok-sort_by.ensures.sorted c.in_ok-sort_by.ensures.stable (λ a r q k. search rules)
    in
    dedup_same _ (λ x y. pointwise nat_eq x.dist y.dist) _ (λ x y b f x' y' k. search rules) _ _ c.dedup_by.ensures.filtered
    ∙ sorted_once nat_list_cmp_total dist_of c.args.records.now.items c.sort_by.new.self.items exact_bytes
    (λ x y. pointwise nat_eq x.dist y.dist) (λ x y. texts_ties x.dist y.dist) sorted.0 sorted.1
