-- What is asked of the packages of a plan. This project's own.
use Rattle.std.specs.Prelude.{◌≡◌, ℕ, false, List}
use Rattle.std.specs.List.{AllByRecursion, Contains}
use Rattle.conda_base.specs.Texts.{Ascending}
use Rattle.conda_path.specs.Dists.{IsDist}
use Rattle.conda_paths.specs.Listings.{is_meta}
use Rattle.conda_goods.specs.Goods.{paths_of}
use Rattle.conda_meta.specs.Reading.{dists_of}
use Rattle.conda_meta.specs.declared.linked.Linked.{Linked}

-- packages by dist, of which no good lies below `conda-meta`
pub record AreInOrder (packages : List Linked) : Type 0 where
  pub by_dist : Ascending (dists_of packages)
  pub outside : AllByRecursion (λ one. AllByRecursion (λ good. is_meta good.path ≡ false) one.goods) packages

-- packages whose dists are dists, and whose goods ascend by path, as the types of both have it
pub record AreMade (packages : List Linked) : Type 0 where
  pub dists : AllByRecursion (λ one. IsDist one.rec.dist) packages
  pub goods : AllByRecursion (λ one. Ascending (paths_of one.goods)) packages

-- no path is that of goods of both
abbrev pub ShareNoGood : Linked → Linked → Type 0
ShareNoGood a b = (path : List ℕ) → Contains (paths_of a.goods) path → Contains (paths_of b.goods) path → ⊥
