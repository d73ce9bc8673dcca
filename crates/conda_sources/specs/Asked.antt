-- Which files of a channel are asked for: this project's own.
use Rattle.std.specs.Prelude.{◌≡◌, ◌⊎◌, ℕ, List, ◌++◌, Option, IfSome, Some}
use Rattle.std.specs.List.{All}
use Rattle.conda_sources.specs.Channels.{linux_64, noarch, repodata_path}

-- the repodata of a subdir
abbrev pub IsRepodata : List ℕ → Type 0
IsRepodata path = (path ≡ repodata_path linux_64) ⊎ (path ≡ repodata_path noarch)

-- whatever a handle was asked for besides was repodata
abbrev pub AsksOnlyForRepodata : Option (List (List ℕ)) → Option (List (List ℕ)) → Type 0
AsksOnlyForRepodata before now =
    IfSome before (λ asked. (more : List (List ℕ)) × (now ≡ Some (asked ++ more)) × All IsRepodata more)
