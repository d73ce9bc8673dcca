-- The state of a supply with one handle on a channel, by which it may read a file of each of its goods, and one on the cache.
use Rattle.std.specs.Prelude.{ℕ, List, [], ◌∷◌, map, None}
use Rattle.conda_path.specs.declared.values.Good.{Good}
use Rattle.conda_device.specs.Tree.{Tree}
use Rattle.conda_checked.specs.Lacks.{no_lacks}
use Rattle.conda_checked.specs.declared.lack.Lacks.{Lacks}
use Rattle.conda_lane.specs.Supplies.{ChanFile, SupplyState}

-- the file of a good
abbrev pub file_of : Good → ChanFile
file_of good = record { handle = 0; path = good.path; size = good.size; digest = good.digest }

-- with these goods and kept nodes, the faults of both handles, and the lacks of the first
abbrev pub supply_of : List Good → Tree → ℕ → ℕ → Lacks → SupplyState
supply_of goods kept channel cache lacks = record {
  goods = goods;
  kept = kept;
  chans = record { name = []; files = None; asked = None; faults = channel; lacks = lacks } ∷ [];
  stores = record { told = None; faults = cache; lacks = no_lacks } ∷ [];
  chan_files = map file_of goods;
  store_files = [];
}
