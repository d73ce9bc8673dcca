-- What channels have of repodata: this project's own.
use Rattle.std.specs.Prelude.{◌≡◌, ℕ, List, ◌∷◌, ◌++◌, codes, map, Option, None, Some, IfSome, option_and_then}
use Rattle.std.specs.List.{All}
use Rattle.std.specs.FinMap as tree
use Rattle.conda_base.specs.Signs.{slash}
use Rattle.conda_path.specs.declared.values.Kind.{Kind}
use Rattle.conda_path.specs.declared.values.Kind.TheVariants.{File, Exec, Soft}
use Rattle.conda_path.specs.declared.values.Node.{Node}
use Rattle.conda_device.specs.Channels.{Files}

-- the folders of a channel that hold packages, in the order in which they are read
abbrev pub linux_64 : List ℕ
linux_64 = codes "linux-64"

abbrev pub noarch : List ℕ
noarch = codes "noarch"

-- where a channel has the repodata of a subdir
abbrev pub repodata_path : List ℕ → List ℕ
repodata_path subdir = subdir ++ codes "/repodata.json"

-- the same as it is printed, behind the channel's name
abbrev pub printed_path : List ℕ → List ℕ → List ℕ
printed_path channel subdir = channel ++ slash ∷ repodata_path subdir

-- the bytes of a file; a soft link is none
abbrev pub bytes_as : Kind → List ℕ → Option (List ℕ)
bytes_as File bytes = Some bytes
bytes_as Exec bytes = Some bytes
bytes_as Soft target = None

-- the repodata text of a subdir, if the channel has one
abbrev pub text_in : Files → List ℕ → Option (List ℕ)
text_in files subdir = option_and_then (λ node. bytes_as node.kind node.bytes) (tree.get files (repodata_path subdir))

-- what was found of a channel: the texts of its subdirs, where they are there
pub record Found : Type 0 where
  pub channel : List ℕ
  pub linux_64 : Option (List ℕ)
  pub noarch : Option (List ℕ)

-- what a channel of this name has that has these files
abbrev pub found_in : List ℕ → Files → Found
found_in channel files =
    record { channel = channel; linux_64 = text_in files linux_64; noarch = text_in files noarch }

-- it is what the channel has, where the channel tells its files
abbrev pub IsTold : (List ℕ → Option Files) → Found → Type 0
IsTold files found = IfSome (files found.channel) (λ all. found ≡ found_in found.channel all)

-- this was found of the channels of these names, one after another
pub record AreFound (files : List ℕ → Option Files) (names : List (List ℕ)) (found : List Found) : Type 0 where
  pub named : map (λ one. one.channel) found ≡ names
  pub told : All (IsTold files) found
