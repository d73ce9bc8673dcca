-- The files of a channel, and what its calls give of them. This project's own; which folders a subdir has is conda-build's index.
use Rattle.std.specs.Prelude.{ℕ, true, false, List, [], ◌∷◌, ◌++◌, take, codes, Contains, ◌↔◌, Option, Some, None, option_map, option_and_then, IsSome}
use Rattle.std.specs.Ordering.{nat_cmp}
use Rattle.std.specs.Cmp.Lexicographic.{slice_cmp}
use Rattle.std.specs.FinMap as map
use Rattle.conda_base.specs.Signs.{slash}
use Rattle.conda_base.specs.Texts.{IsFreeOf}
use Rattle.conda_path.specs.Paths.{IsPart}
use Rattle.conda_path.specs.declared.values.Kind.{Kind}
use Rattle.conda_path.specs.declared.values.Kind.TheVariants.{File, Exec, Soft}
use Rattle.conda_path.specs.declared.values.Node.{Node}
use Rattle.conda_device.specs.declared.chan.Shown.{Shown}

-- the files of a channel: a map from paths to nodes, in the order of the paths' bytes
abbrev pub Files : Type 0
Files = map.FinMap (slice_cmp nat_cmp) Node

-- what a channel shows of a node of this kind and these bytes
abbrev pub shown_as : Kind → List ℕ → Shown
shown_as File bytes = Shown.File false
shown_as Exec bytes = Shown.File true
shown_as Soft target = Shown.Soft target

abbrev pub shown_of : Node → Shown
shown_of node = shown_as node.kind node.bytes

-- at most the first bytes of a node that is a file; a soft link has none
abbrev pub bytes_as : ℕ → Kind → List ℕ → Option (List ℕ)
bytes_as max Soft target = None
bytes_as max kind bytes = Some (take max bytes)

abbrev pub bytes_of : ℕ → Node → Option (List ℕ)
bytes_of max node = bytes_as max node.kind node.bytes

-- at most the first bytes of the file at a path, where one is there
abbrev pub first_bytes : ℕ → Files → List ℕ → Option (List ℕ)
first_bytes max all path = option_and_then (bytes_of max) (map.get all path)

-- what was asked for, and this path at the end
abbrev pub asked_too : Option (List (List ℕ)) → List ℕ → Option (List (List ℕ))
asked_too asked path = option_map (λ paths. paths ++ path ∷ []) asked

-- ---- the folders of packages in a subdir

-- where the package of this folder has its index file
abbrev pub index_path : List ℕ → List ℕ → List ℕ
index_path subdir name = subdir ++ slash ∷ (name ++ codes "/info/index.json")

-- the subdir has a folder of this name, in which an index file is
pub record HasFolder (all : Files) (subdir name : List ℕ) : Type 0 where
  pub part : IsPart name
  pub plain : IsFreeOf slash name
  pub there : IsSome (map.get all (index_path subdir name))

-- these are the names of all such folders
abbrev pub ListsFolders : Files → List ℕ → List (List ℕ) → Type 0
ListsFolders all subdir names = (name : List ℕ) → Contains names name ↔ HasFolder all subdir name
