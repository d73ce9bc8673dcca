-- What goes with a revision: goods and meta files of packages that are linked now. This project's own.
use Rattle.std.specs.Prelude.{◌≡◌, ◌↔◌, ℕ, ◌⊎◌, List, ◌++◌, filter, map}
use Rattle.std.specs.List.{Contains, flat_map}
use Rattle.conda_goods.specs.Goods.{paths_of}
use Rattle.conda_meta.specs.Reading.{dists_of}
use Rattle.conda_meta.specs.Shows.{prefix_path}
use Rattle.conda_meta.specs.declared.linked.Linked.{Linked}
use Rattle.conda_meta.specs.declared.revision.Revision.{Revision}
use Rattle.conda_changes.specs.Paths.{Texts, is_in}

-- a package that is linked now goes: the revision unlinks it, or links one of its dist
abbrev pub Goes : Revision → Linked → Type 0
Goes revision one = Contains revision.unlinked one.rec.dist ⊎ Contains (dists_of revision.linked) one.rec.dist

-- these are the packages that go
abbrev pub AreGoing : List Linked → Revision → List Linked → Type 0
AreGoing now revision going = (one : Linked) → Contains going one ↔ (Contains now one × Goes revision one)

-- the path of a good, or of the meta file, of a package that goes
abbrev pub IsGoingGood : List Linked → Revision → List ℕ → Type 0
IsGoingGood now revision path = (one : Linked) × Contains now one × Goes revision one × Contains (paths_of one.goods) path

abbrev pub IsGoingFile : List Linked → Revision → List ℕ → Type 0
IsGoingFile now revision path = (one : Linked) × Contains now one × Goes revision one × (path ≡ prefix_path one.rec.dist)

-- the dists that a revision unlinks or links
abbrev pub changed_dists : Revision → List (List ℕ)
changed_dists revision = revision.unlinked ++ dists_of revision.linked

-- the packages whose dists are in a set
abbrev pub those_of : Texts → List Linked → List Linked
those_of dists packages = filter (λ one. is_in dists one.rec.dist) packages

-- the paths of the goods of packages, and of their meta files
abbrev pub good_paths : List Linked → List (List ℕ)
good_paths packages = flat_map (λ one. paths_of one.goods) packages

abbrev pub file_paths : List Linked → List (List ℕ)
file_paths packages = map (λ one. prefix_path one.rec.dist) packages
