use Rattle.std.specs.Prelude.{IsSome}
use Rattle.std.specs.FinMap as map
use Rattle.conda_device.specs.Trees.{all_keys, ascending_keys, get_put, get_erased, get_moved, same_trees}
use Rattle.conda_device.proofs.trees.tree_laws.Goals as goal

pub returns : goal.returns
returns c = record {
  put = get_put;
  erased = get_erased;
  moved = get_moved;
  same = same_trees;
  ascending = ascending_keys;
  keys = λ tree. all_keys (λ path. IsSome (map.get tree path)) tree (λ path is. is);
}
