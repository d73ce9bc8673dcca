-- The order of records. By version, build number and timestamp it is that of conda's resolve.py; dist and subdir, which settle what is
-- left, are this project's own.
use Rattle.std.specs.Prelude.{ℕ, Bool, List}
use Rattle.std.specs.Ordering.{is_le, is_lt, nat_cmp, ordering_then}
use Rattle.std.specs.Cmp.Lexicographic.{slice_cmp}
use Rattle.std.specs.declared.cmp.Ordering.{Ordering}
use Rattle.conda_record.specs.declared.pkg_record.PkgRecord.{PkgRecord}
use Rattle.conda_version.specs.Order.{version_cmp}
use Rattle.conda_encode.specs.Matching.{lowered}
use Rattle.conda_index.specs.Names.{name_of}

-- plain order: the greater version first, then the greater build number, the greater timestamp, the lesser dist, the lesser subdir
abbrev pub plain_cmp : PkgRecord → PkgRecord → Ordering
plain_cmp a b =
    ordering_then (version_cmp b.version a.version)
    (ordering_then (nat_cmp b.build_number a.build_number)
    (ordering_then (nat_cmp b.timestamp a.timestamp)
    (ordering_then (slice_cmp nat_cmp a.dist b.dist) (slice_cmp nat_cmp a.subdir b.subdir))))

-- by name, and records of one name in plain order
abbrev pub index_cmp : PkgRecord → PkgRecord → Ordering
index_cmp a b = ordering_then (slice_cmp nat_cmp (name_of a) (name_of b)) (plain_cmp a b)

-- the record's name comes before this one
abbrev pub is_before : List ℕ → PkgRecord → Bool
is_before name pkg = is_lt (slice_cmp nat_cmp (name_of pkg) (lowered name))

-- the record's name comes before this one, or is it
abbrev pub is_within : List ℕ → PkgRecord → Bool
is_within name pkg = is_le (slice_cmp nat_cmp (name_of pkg) (lowered name))
