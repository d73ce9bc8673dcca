-- Which records of packages a specification names: conda's match_spec.py.
use Rattle.std.specs.Prelude.{ℕ, Bool, not, ◌&&◌, List, map}
use Rattle.std.specs.Char.{to_ascii_lowercase}
use Rattle.conda_base.specs.Texts.{is_text}
use Rattle.conda_spec.specs.Match.{Looks, spec_matches}
use Rattle.conda_spec.specs.Parts.{Parts}
use Rattle.conda_record.specs.declared.pkg_record.PkgRecord.{PkgRecord}

-- a name with its letters in lower case
abbrev pub lowered : List ℕ → List ℕ
lowered = map to_ascii_lowercase

-- what a specification looks at in a record
abbrev pub looks : PkgRecord → Looks
looks pkg = record { name = pkg.name; version = pkg.version; build = pkg.build; number = pkg.build_number; channel = pkg.channel; subdir = pkg.subdir }

-- the specification names the record
abbrev pub names : Parts → PkgRecord → Bool
names spec pkg = spec_matches spec (looks pkg)

-- the record is of the specification's name
abbrev pub is_of_name : Parts → PkgRecord → Bool
is_of_name spec pkg = is_text spec.name (lowered pkg.name)

-- the record is of the specification's name, and isn't one that it names
abbrev pub bars : Parts → PkgRecord → Bool
bars spec pkg = is_of_name spec pkg && not (names spec pkg)
