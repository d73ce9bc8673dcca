-- The pools of names. Channels hide one another as conda's strict channel priority has it; that it goes by the order of the channels
-- alone is this project's own.
use Rattle.std.specs.Prelude.{◌≤◌, ℕ, Bool, false, ◌&&◌, if◌then◌else◌, List, [], ◌∷◌, ◌++◌, All, length, map, filter, find, Option}
use Rattle.std.specs.List.{flat_map}
use Rattle.std.specs.List.Sorted.{IsPermutation, IsSorted}
use Rattle.std.specs.Option.{option_map, option_map_or}
use Rattle.conda_base.specs.Signs.{dash}
use Rattle.conda_base.specs.Texts.{is_text}
use Rattle.conda_record.specs.declared.noarch.Noarch.{Noarch}
use Rattle.conda_record.specs.declared.pkg_record.PkgRecord.{PkgRecord}
use Rattle.conda_encode.specs.Variables.{IsPlain}
use Rattle.conda_repodata.specs.declared.repodata.Repodata.{Repodata}
use Rattle.conda_index.specs.Names.{is_named, is_virtual_name}
use Rattle.conda_index.specs.Order.{index_cmp, plain_cmp}
use Rattle.conda_index.specs.declared.virtuals.Virtual.{Virtual}

-- ---- channels

-- the records of all parts, in their order
abbrev pub given : List Repodata → List PkgRecord
given parts = flat_map (λ part. part.recs) parts

-- the channel of the first record of the name
abbrev pub first_channel : List PkgRecord → List ℕ → Option (List ℕ)
first_channel records name = option_map (λ pkg. pkg.channel) (find (is_named name) records)

-- the record is of that channel
abbrev pub is_of : Option (List ℕ) → PkgRecord → Bool
is_of channel pkg = option_map_or (is_text pkg.channel) channel false

-- the records of the name in the first channel that has one; those of all other channels are hidden
abbrev pub channel_pool : List PkgRecord → List ℕ → List PkgRecord
channel_pool records name = filter (λ pkg. is_named name pkg && is_of (first_channel records name) pkg) records

-- ---- virtual packages

abbrev pub virtual_dist : Virtual → List ℕ
virtual_dist virtual = virtual.name ++ dash ∷ (virtual.version ++ dash ∷ virtual.build)

-- the record of a virtual package
abbrev pub virtual_record : Virtual → PkgRecord
virtual_record virtual = record {
  name = virtual.name;
  version = virtual.version;
  build = virtual.build;
  build_number = 0;
  channel = [];
  subdir = [];
  dist = virtual_dist virtual;
  depends = [];
  constrains = [];
  noarch = Noarch.No;
  timestamp = 0;
}

-- ---- pools

-- the records of a name's pool: for a name of virtual packages these, for each other one those of the channels
abbrev pub pool_records : List Repodata → List Virtual → List ℕ → List PkgRecord
pool_records parts virtuals name =
    if is_virtual_name name then filter (is_named name) (map virtual_record virtuals) else channel_pool (given parts) name

-- the pool has exactly these records, in plain order
pub record IsPool (records pool : List PkgRecord) : Type 0 where
  pub same : IsPermutation records pool
  pub order : IsSorted plain_cmp pool

-- the pool of a name in an index, which is seen as its records
abbrev pub pool_of : List PkgRecord → List ℕ → List PkgRecord
pool_of index name = filter (is_named name) index

-- ---- an index

-- no entry of the record names packages by a star
abbrev pub NamesPlainly : PkgRecord → Type 0
NamesPlainly pkg = All IsPlain pkg.depends × All IsPlain pkg.constrains

-- the most records of an index
abbrev pub index_limit : ℕ
index_limit = 16777216

-- Records by name, those of one name in plain order. No entry names packages by a star, and there are at most 2^24 of them.
pub record IsIndex (records : List PkgRecord) : Type 0 where
  pub order : IsSorted index_cmp records
  pub plain : All NamesPlainly records
  pub few : length records ≤ index_limit
