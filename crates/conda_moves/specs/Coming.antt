-- What comes with a revision: the goods of the packages that it links, and new meta files. This project's own.
use Rattle.std.specs.Prelude.{◌≡◌, ℕ, List, [], ◌∷◌, ◌++◌, length, map, Option, None, Some}
use Rattle.std.specs.List.{Contains, flat_map}
use Rattle.sha2.specs.Sha256.{sha256}
use Rattle.conda_path.specs.declared.values.Good.{Good}
use Rattle.conda_path.specs.declared.values.Kind.{Kind}
use Rattle.conda_goods.specs.Goods.{paths_of}
use Rattle.conda_goods.specs.declared.owned.Owned.{Owned}
use Rattle.conda_goods.specs.declared.owner.Owner.{Owner}
use Rattle.conda_meta.specs.Shows.{prefix_path, revision_path}
use Rattle.conda_meta.specs.Texts.{prefix_text, revision_text}
use Rattle.conda_meta.specs.declared.linked.Linked.{Linked}
use Rattle.conda_meta.specs.declared.revision.Revision.{Revision}

-- what a file with this text has to show
abbrev pub text_good : List ℕ → List ℕ → Good
text_good path text = record { path = path; kind = Kind.File; size = length text; digest = record { bytes = sha256 text } }

-- the meta file of a package that is linked, and that of a revision
abbrev pub package_file : Linked → Good
package_file one = text_good (prefix_path one.rec.dist) (prefix_text one)

abbrev pub revision_file : ℕ → Revision → Good
revision_file number revision = text_good (revision_path number) (revision_text revision)

-- all that comes: the goods of the packages that are linked, their meta files, and the revision's
abbrev pub coming : ℕ → Revision → List Good
coming number revision =
    flat_map (λ one. one.goods) revision.linked ++ (map package_file revision.linked ++ revision_file number revision ∷ [])

-- what comes at the path, if something does
abbrev pub IsComing : List Good → List ℕ → Option Good → Type 0
IsComing goods path None = ¬ Contains (paths_of goods) path
IsComing goods path (Some good) = Contains goods good × (good.path ≡ path)

-- a new meta file, which is its package's or, for the revision's, nobody's
abbrev pub file_part : Linked → Owned
file_part one = record { owner = Owner.Dist one.rec.dist; goods = package_file one ∷ [] }

abbrev pub revision_part : ℕ → Revision → Owned
revision_part number revision = record { owner = Owner.Other; goods = revision_file number revision ∷ [] }

-- the new meta files
abbrev pub new_files : ℕ → Revision → List Owned
new_files number revision = map file_part revision.linked ++ revision_part number revision ∷ []
