use Rattle.std.proofs.Common.{rules, refl, ◌∙◌}
use Rattle.std.proofs.lemmas.Fn.{dedup_same}
use Rattle.std.specs.Ordering.{eq_by_cmp}
use Rattle.conda_repodata.specs.Entries.{place_cmp, place_of}
use Rattle.conda_repodata.proofs.AscendingLemmas.{sorted_by, sorted_once}
use Rattle.conda_repodata.proofs.OrderLemmas.{place_exact, place_total}
use Rattle.conda_repodata.proofs.order.put_by_file.Goals as goal

pub returns : goal.returns
returns c =
    let sorted = sorted_by place_total place_of c.args.unread.now.items c.sort_by.new.self.items
    c.in_ok-sort_by.ensures.sorted c.in_ok-sort_by.ensures.stable (λ a r q k. search rules)
    in
    dedup_same _ (λ x y. eq_by_cmp place_cmp (place_of x) (place_of y)) _ (λ x y b f x' y' k. search rules) _ _ c.dedup_by.ensures.filtered
    ∙ sorted_once place_total place_of c.args.unread.now.items c.sort_by.new.self.items place_exact
    (λ x y. eq_by_cmp place_cmp (place_of x) (place_of y)) (λ x y. refl) sorted.0 sorted.1
