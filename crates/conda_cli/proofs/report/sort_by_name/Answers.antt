use Rattle.std.proofs.Common.{rules}
use Rattle.conda_cli.proofs.NameOrder.{IsSorted-from_sort_by}
use Rattle.conda_cli.proofs.report.sort_by_name.Goals as goal

pub returns : goal.returns
returns c = record {
  same = c.in_ok-sort_by.ensures.permutation;
  ascending = IsSorted-from_sort_by _ c.in_ok-sort_by.ensures.sorted (λ a r q k. search rules);
}
