-- What each refusal says, and that it is the first. The order is this project's own.
use Rattle.std.specs.Prelude.{◌≡◌, ℕ, ◌⊎◌, List, [], ◌∷◌, length, Option}
use Rattle.conda_device.specs.declared.lane.Abilities.{Abilities}
use Rattle.conda_paths.specs.declared.error.ListingWhy.{ListingWhy}
use Rattle.conda_paths.specs.declared.row.Placeholder.{Placeholder}
use Rattle.conda_paths.specs.declared.row.Row.{Row}
use Rattle.conda_placing.specs.Content.{HasShortPadding, IsTooShort}
use Rattle.conda_placing.specs.Placing.{IsBadPlace, IsFirstRefused, IsNoLink, IsRowPath, LacksPython, placings_of, row_number}
use Rattle.conda_placing.specs.declared.error.PlacingErr.{PlacingErr}
use Rattle.conda_placing.specs.declared.package.Package.{Package}
use Rattle.conda_placing.specs.declared.placing.Origin.{Origin}
use Rattle.conda_placing.specs.declared.placing.Placing.{Placing}

-- ---- placings

-- the row of the first placing that is refused has this number, and its place can't be had
pub record HasBadPlace (pkg : Package) (abilities : Abilities) (placings : List Placing) (row : ℕ) : Type 0 where
  pub before : List Placing
  pub placing : Placing
  pub first : IsFirstRefused abilities placings before placing
  pub bad : IsBadPlace before placing
  pub number : row ≡ row_number pkg placing.from

-- the row of the first placing that is refused has this path; its place can be had, and it is a soft link
pub record HasNoLink (pkg : Package) (abilities : Abilities) (placings : List Placing) (path : List ℕ) : Type 0 where
  pub before : List Placing
  pub placing : Placing
  pub first : IsFirstRefused abilities placings before placing
  pub fits : ¬ IsBadPlace before placing
  pub link : IsNoLink abilities placing
  pub row : IsRowPath pkg placing.from path

-- the first of these placings of the package that is refused, or memory ran out
abbrev pub Refuses : Package → Abilities → List Placing → PlacingErr → Type 0
Refuses pkg abilities placings (PlacingErr.NoPython dist) = ⊥
Refuses pkg abilities placings (PlacingErr.BadListing row why) = (why ≡ ListingWhy.Path) × HasBadPlace pkg abilities placings row
Refuses pkg abilities placings (PlacingErr.NoSoftLink path) = HasNoLink pkg abilities placings path
Refuses pkg abilities placings (PlacingErr.PaddingShort path have need) = ⊥
Refuses pkg abilities placings PlacingErr.Memory = Unit {0}

-- a package that lacks its Python is refused before all of its placings
abbrev pub RefusesPlacings : Package → Option (List ℕ) → Abilities → PlacingErr → Type 0
RefusesPlacings pkg python abilities e =
    (LacksPython pkg.rec.noarch python × (e ≡ PlacingErr.NoPython pkg.rec.dist))
    ⊎ ((¬ LacksPython pkg.rec.noarch python) × Refuses pkg abilities (placings_of pkg python abilities) e)
    ⊎ (e ≡ PlacingErr.Memory)

-- ---- one placing behind others

-- one placing is given, and its place can't be had behind these
pub record IsBadBehind (before given : List Placing) : Type 0 where
  pub placing : Placing
  pub one : given ≡ placing ∷ []
  pub bad : IsBadPlace before placing

-- one placing is given; its place can be had, and it is a soft link where none can be made
pub record IsLinkBehind (abilities : Abilities) (before given : List Placing) : Type 0 where
  pub placing : Placing
  pub one : given ≡ placing ∷ []
  pub fits : ¬ IsBadPlace before placing
  pub link : IsNoLink abilities placing

-- what an entry point with this number gives is refused behind these, or memory ran out
abbrev pub RefusesScript : ℕ → List Placing → List Placing → PlacingErr → Type 0
RefusesScript number before given e =
    ((e ≡ PlacingErr.BadListing number ListingWhy.Path) × IsBadBehind before given) ⊎ (e ≡ PlacingErr.Memory)

-- the same of a row at this place
abbrev pub RefusesRow : Abilities → ℕ → Row → List Placing → List Placing → PlacingErr → Type 0
RefusesRow abilities at row before given e =
    RefusesScript at before given e ⊎ ((e ≡ PlacingErr.NoSoftLink row.path) × IsLinkBehind abilities before given)

-- ---- content

-- the prefix has no room in the row's file, or memory ran out
abbrev pub RefusesFilled : Row → List ℕ → List ℕ → PlacingErr → Type 0
RefusesFilled row prefix bytes e =
    ((placeholder : Placeholder) × IsTooShort row placeholder prefix bytes
    × (e ≡ PlacingErr.PaddingShort row.path (length placeholder.text) (length prefix)))
    ⊎ (e ≡ PlacingErr.Memory)

-- the same of what a placing is from
abbrev pub RefusesContent : Package → List ℕ → Origin → List ℕ → PlacingErr → Type 0
RefusesContent pkg prefix from bytes e =
    ((path : List ℕ) × (have : ℕ) × (need : ℕ) × HasShortPadding pkg prefix from bytes path have need
    × (e ≡ PlacingErr.PaddingShort path have need))
    ⊎ (e ≡ PlacingErr.Memory)
