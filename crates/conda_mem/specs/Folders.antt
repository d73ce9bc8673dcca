-- Names of packages' folders in a channel's subdir. This project's own.
use Rattle.std.specs.Prelude.{◌≡◌, ℕ, List}
use Rattle.conda_base.specs.Signs.{slash}
use Rattle.conda_base.specs.Texts.{IsFreeOf}
use Rattle.conda_path.specs.Paths.{IsPart}
use Rattle.conda_device.specs.Channels.{index_path}

-- the text may be the name of a folder
abbrev pub IsName : List ℕ → Type 0
IsName name = IsPart name × IsFreeOf slash name

-- at the path stands the index file of the subdir's folder of this name
abbrev pub IsIndexOf : List ℕ → List ℕ → List ℕ → Type 0
IsIndexOf subdir path name = (path ≡ index_path subdir name) × IsName name
