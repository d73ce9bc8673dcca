-- Which of the solutions is the choice: this project's own. Names are decided one after another, and each gets the first record of its
-- pool with which there is a solution. It knows no search.
use Rattle.std.specs.Prelude.{◌≡◌, ◌↔◌, ℕ, Bool, true, false, not, ◌&&◌, ◌⊎◌, if◌then◌else◌, List, [], ◌∷◌, ◌++◌, filter, find, map, Option, None, Some}
use Rattle.std.specs.List.{Contains, flat_map, list_any}
use Rattle.conda_base.specs.Texts.{Ascending, is_text}
use Rattle.conda_record.specs.declared.pkg_record.PkgRecord.{PkgRecord}
use Rattle.conda_record.specs.declared.pool.NamePool.{NamePool}
use Rattle.conda_encode.specs.Matching.{lowered}
use Rattle.conda_encode.specs.Solution.{IsSolution}
use Rattle.conda_encode.specs.Variables.{records}
use Rattle.conda_encode.specs.declared.asked.Asked.{Asked}
use Rattle.conda_encode.specs.declared.asked.AskKind.{AskKind}
use Rattle.conda_encode.specs.declared.asked.AskKind.TheVariants.{Pinned, Wanted}

-- ---- the next name

-- the item is wanted, and not only pinned
abbrev pub is_wanted : AskKind → Bool
is_wanted Wanted = true
is_wanted Pinned = false

-- the names that are wanted, in the order of the items
abbrev pub names_wanted : List Asked → List (List ℕ)
names_wanted items = map (λ item. item.spec.name) (filter (λ item. is_wanted item.kind) items)

-- the names that a record needs, and those that these records need, one record after another
abbrev pub needs_of : PkgRecord → List (List ℕ)
needs_of pkg = map (λ need. need.name) pkg.depends

abbrev pub names_needed : List PkgRecord → List (List ℕ)
names_needed decided = flat_map needs_of decided

-- the record has the name, its letters lowered
abbrev pub has_name : List ℕ → PkgRecord → Bool
has_name name pkg = is_text name (lowered pkg.name)

abbrev pub is_decided : List PkgRecord → List ℕ → Bool
is_decided decided name = list_any (has_name name) decided

-- the first name that is wanted, or needed by what is decided, and isn't decided itself
abbrev pub next_name : List Asked → List PkgRecord → Option (List ℕ)
next_name items decided = find (λ name. not (is_decided decided name)) (names_wanted items ++ names_needed decided)

-- ---- the order of the records of a name

-- a wanted item asks for the newest package of the name
abbrev pub is_fresh : List Asked → List ℕ → Bool
is_fresh items name = list_any (λ item. is_wanted item.kind && item.fresh && is_text name item.spec.name) items

-- the records have one place in a channel, and so one slot in the cache
abbrev pub is_same_slot : PkgRecord → PkgRecord → Bool
is_same_slot a b = is_text a.dist b.dist && is_text a.channel b.channel && is_text a.subdir b.subdir

-- one of these records is installed here
abbrev pub is_installed : List PkgRecord → PkgRecord → Bool
is_installed installed pkg = list_any (is_same_slot pkg) installed

-- the first of these records, which have the name, that is installed, unless the newest one is asked for
abbrev pub installed_one : List Asked → List PkgRecord → List ℕ → List PkgRecord → Option PkgRecord
installed_one items installed name recs =
    if is_fresh items name then None else find (is_installed (filter (has_name name) installed)) recs

abbrev pub in_front : Option PkgRecord → List PkgRecord → List PkgRecord
in_front None recs = recs
in_front (Some pkg) recs = pkg ∷ recs

-- The records of the name in the order of its pool, behind the installed one, if there is one. That this one comes a second time
-- changes nothing: the first time decides.
abbrev pub ranked : List NamePool → List Asked → List PkgRecord → List ℕ → List PkgRecord
ranked pools items installed name =
    let recs = filter (has_name name) (records pools) in
    in_front (installed_one items installed name recs) recs

-- ---- the record of a name

-- some solution has the record and all that is decided
abbrev pub CanStand : List NamePool → List Asked → List PkgRecord → PkgRecord → Type 0
CanStand pools items decided pkg =
    (set : List PkgRecord) × IsSolution set items pools × Contains set pkg × ((m : PkgRecord) → Contains decided m → Contains set m)

-- the first of these for which P holds
abbrev pub IsFirst : {A : Type 0} → (A → Type 0) → List A → A → Type 0
IsFirst P [] x = ⊥
IsFirst P (y ∷ ys) x = ((y ≡ x) × P x) ⊎ ((P y → ⊥) × IsFirst P ys x)

-- the record is picked for the name
abbrev pub IsPicked : List NamePool → List Asked → List PkgRecord → List PkgRecord → List ℕ → PkgRecord → Type 0
IsPicked pools items installed decided name pkg = IsFirst (CanStand pools items decided) (ranked pools items installed name) pkg

-- ---- the choice

-- What is decided in the end, from what is decided so far: each next name gets the record that is picked for it.
pub data LeadsTo (pools : List NamePool) (items : List Asked) (installed : List PkgRecord) : List PkgRecord → List PkgRecord → Type 0 where
  done : (decided : List PkgRecord) → next_name items decided ≡ None → LeadsTo pools items installed decided decided
  step : (decided end : List PkgRecord) (name : List ℕ) (pkg : PkgRecord) → next_name items decided ≡ Some name
      → IsPicked pools items installed decided name pkg → LeadsTo pools items installed (decided ++ pkg ∷ []) end
      → LeadsTo pools items installed decided end

-- the records of the set, and no others, are decided in the end, and they ascend by their names
pub record IsChoice (pools : List NamePool) (items : List Asked) (installed set : List PkgRecord) : Type 0 where
  pub decided : List PkgRecord
  pub leads : LeadsTo pools items installed [] decided
  pub same : (m : PkgRecord) → Contains decided m ↔ Contains set m
  pub by_name : Ascending (map (λ m. lowered m.name) set)
