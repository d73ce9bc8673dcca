-- What is gathered of records, one after another.
use Rattle.std.specs.Prelude.{◌≡◌, ℕ, Bool, not, ◌&&◌, nat_eq, List, Option, filter, find, map, unwrap_or}
use Rattle.std.specs.Cmp.Lexicographic.{pointwise}
use Rattle.std.specs.Option.{option_map}
use Rattle.std.specs.HashMap.{get}
use Rattle.conda_base.specs.Texts.{is_text}
use Rattle.conda_record.specs.declared.pkg_record.PkgRecord.{PkgRecord}
use Rattle.conda_index.specs.Names.{is_virtual_name, name_of}
use Rattle.conda_index.specs.Pools.{first_channel, is_of, virtual_record}
use Rattle.conda_index.specs.declared.gather.Gathered.{Gathered}
use Rattle.conda_index.specs.declared.virtuals.Virtual.{Virtual}

-- the record isn't hidden among these, and doesn't have the name of virtual packages
abbrev pub is_shown : List PkgRecord → PkgRecord → Bool
is_shown records pkg = not (is_virtual_name pkg.name) && is_of (first_channel records pkg.name) pkg

-- those that aren't hidden
abbrev pub shown : List PkgRecord → List PkgRecord
shown records = filter (is_shown records) records

-- the channel of the first record whose name is this one in lower case
abbrev pub first_of : List PkgRecord → List ℕ → Option (List ℕ)
first_of records name = option_map (λ pkg. pkg.channel) (find (λ pkg. is_text (name_of pkg) name) records)

-- a record of a name with this first channel isn't hidden, and doesn't have the name of virtual packages
abbrev pub is_kept : Option (List ℕ) → PkgRecord → Bool
is_kept first pkg = not (is_virtual_name pkg.name) && is_text pkg.channel (unwrap_or first pkg.channel)

-- this was gathered of the records
pub record IsGathered (records : List PkgRecord) (state : Gathered) : Type 0 where
  pub firsts : (name : List ℕ) → get (pointwise nat_eq) state.firsts name ≡ first_of records name
  pub kept : state.records.items ≡ shown records

-- the records of the virtual packages that have the names of such
abbrev pub virtual_records : List Virtual → List PkgRecord
virtual_records virtuals = filter (λ pkg. is_virtual_name pkg.name) (map virtual_record virtuals)
