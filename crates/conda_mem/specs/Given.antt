-- The files of the channels that a host in memory is given. This project's own.
use Rattle.std.specs.Prelude.{ℕ, List, [], ◌∷◌, if◌then◌else◌, unwrap_or}
use Rattle.std.specs.Ordering.{nat_cmp}
use Rattle.std.specs.Cmp.Lexicographic.{slice_cmp}
use Rattle.std.specs.Map.{lookup}
use Rattle.std.specs.BTreeMap.{is_at}
use Rattle.std.specs.Str.{bytes_eq}
use Rattle.std.specs.FinMap as map
use Rattle.conda_path.specs.declared.values.Node.{Node}
use Rattle.conda_device.specs.Channels.{Files}

-- the files with these too: of two nodes for one path the last counts
abbrev pub with_files : Files → List (List ℕ × Node) → Files
with_files all [] = all
with_files all (file ∷ rest) = with_files (map.insert all file.0 file.1) rest

-- the files that a list of channels gives to one of them: of two entries for one channel the last counts
abbrev pub given_files : List (List ℕ × List (List ℕ × Node)) → Files → List ℕ → Files
given_files [] all name = all
given_files (channel ∷ rest) all name = given_files rest (if bytes_eq name channel.0 then with_files map.empty channel.1 else all) name

-- the files of a channel; one that isn't there has none
abbrev pub files_at : List (List ℕ × Files) → List ℕ → Files
files_at channels name = unwrap_or (lookup (is_at (slice_cmp nat_cmp name)) channels) map.empty
