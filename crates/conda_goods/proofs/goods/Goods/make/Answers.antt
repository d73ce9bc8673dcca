use Rattle.std.proofs.Common.{rules, sym, subst}
use Rattle.conda_goods.specs.Goods.{IsSortedOf}
use Rattle.conda_goods.proofs.Sorting.{sorted_goods}
use Rattle.conda_goods.proofs.goods.Goods.make.Goals as goal

pub invariant_of-result : goal.invariant_of-result
invariant_of-result c =
    let sorted = sorted_goods c.args.goods.items c.sort_by.new.self.items c.in_ok-sort_by.ensures.permutation c.in_ok-sort_by.ensures.sorted (λ a r q k. search rules) c.requires in
    let made : IsSortedOf c.args.goods.items c.from_vec.result = subst (IsSortedOf c.args.goods.items) (sym c.from_vec.ensures) sorted in
    made.ascending

pub returns : goal.returns
returns c =
    let sorted = sorted_goods c.args.goods.items c.sort_by.new.self.items c.in_ok-sort_by.ensures.permutation c.in_ok-sort_by.ensures.sorted (λ a r q k. search rules) c.requires in
    subst (IsSortedOf c.args.goods.items) (sym c.from_vec.ensures) sorted
