-- Goods by their paths. This project's own.
use Rattle.std.specs.Prelude.{ℕ, List, map}
use Rattle.std.specs.List.Sorted.{IsPermutation}
use Rattle.conda_base.specs.Texts.{Ascending}
use Rattle.conda_path.specs.declared.values.Good.{Good}

-- the paths of goods
abbrev pub paths_of : List Good → List (List ℕ)
paths_of goods = map (λ good. good.path) goods

-- the second list has the goods of the first, ascending by path, so that no path stands twice
pub record IsSortedOf (goods sorted : List Good) : Type 0 where
  pub same : IsPermutation goods sorted
  pub ascending : Ascending (paths_of sorted)
