-- Which packages a revision links and unlinks, after conda's `solve.py`: what is linked anew, and Python code that is linked again for
-- another Python. What is taken as another package is this project's own.
use Rattle.std.specs.Prelude.{◌≡◌, ◌↔◌, ℕ, ◌⊎◌, if◌then◌else◌, List, map, codes, Option, None, Some}
use Rattle.std.specs.Char.{to_ascii_lowercase}
use Rattle.std.specs.List.{Contains}
use Rattle.conda_base.specs.Texts.{Ascending, is_text}
use Rattle.conda_link.specs.Places.{python_parts}
use Rattle.conda_record.specs.Records.{key_of}
use Rattle.conda_record.specs.declared.noarch.Noarch.{Noarch}
use Rattle.conda_record.specs.declared.pkg_record.PkgRecord.{PkgRecord}
use Rattle.conda_meta.specs.Reading.{dists_of}
use Rattle.conda_meta.specs.declared.folding.Folded.{Folded}
use Rattle.conda_meta.specs.declared.linked.Linked.{Linked}
use Rattle.conda_meta.specs.declared.revision.Revision.{Revision}

-- ---- Pythons

-- the X.Y of a package named `python`; letters are lowered
abbrev pub python_version : PkgRecord → Option (List ℕ)
python_version rec = if is_text (map to_ascii_lowercase rec.name) (codes "python") then python_parts rec.version else None

-- one of the packages is a Python X.Y
abbrev pub HasPython : List Linked → List ℕ → Type 0
HasPython packages python = (one : Linked) × Contains packages one × (python_version one.rec ≡ Some python)

-- the target has a Python with an X.Y that no linked one has
abbrev pub HasNewPython : List Linked → List Linked → Type 0
HasNewPython now target = (python : List ℕ) × HasPython target python × (¬ HasPython now python)

-- ---- which packages are to link

-- one of the packages has this key in the cache
abbrev pub HasKey : List Linked → PkgRecord → Type 0
HasKey packages rec = (one : Linked) × Contains packages one × (key_of one.rec ≡ key_of rec)

-- one of the packages has this key in the cache and these goods
abbrev pub HasSame : List Linked → Linked → Type 0
HasSame packages one = (other : Linked) × Contains packages other × (key_of other.rec ≡ key_of one.rec) × (other.goods ≡ one.goods)

-- It is another one than is linked now, or it is Python code that fits every Python, and the target's Python is a new one.
abbrev pub IsNewOne : List Linked → List Linked → Linked → Type 0
IsNewOne now target one = (¬ HasKey now one.rec) ⊎ ((one.rec.noarch ≡ Noarch.Python) × HasNewPython now target)

-- To go back to what was kept is to link what isn't linked now with these goods.
abbrev pub IsToLink : Option Folded → List Linked → List Linked → Linked → Type 0
IsToLink None now target one = IsNewOne now target one
IsToLink (Some kept) now target one = ¬ HasSame now one

-- each member of the target that isn't to link stands in it as it is linked now
abbrev pub AreCarried : Option Folded → List Linked → List Linked → Type 0
AreCarried kept now target = (one : Linked) → Contains target one → (¬ IsToLink kept now target one) → Contains now one

-- ---- the revision

-- It links, as they stand in the target, the packages that are to link, and unlinks those of which the target has no package of the same
-- dist, both by dist; it asks for what the target asks for.
pub record IsRevisionTo (kept : Option Folded) (now target : Folded) (revision : Revision) : Type 0 where
  pub linked : (one : Linked) → Contains revision.linked one ↔ (Contains target.linked one × IsToLink kept now.linked target.linked one)
  pub by_dist : Ascending (dists_of revision.linked)
  pub unlinked : (dist : List ℕ)
      → Contains revision.unlinked dist ↔ (Contains (dists_of now.linked) dist × (¬ Contains (dists_of target.linked) dist))
  pub dists : Ascending revision.unlinked
  pub requested : revision.requested ≡ target.requested
