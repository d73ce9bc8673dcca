-- The row and what is shown at a place, and what is said of its file.
use Rattle.std.specs.Prelude.{◌≡◌, ◌≢◌, ℕ, ◌<◌, zero, suc, List, [], ◌∷◌, length, Option, None, Some, slice_get}
use Rattle.std.proofs.Common.{refl, ap, sym, ◌∙◌, subst, inl, inr, arith, get_or}
use Rattle.std.proofs.lemmas.Option.{none-some, same_Some, slice_get_read, slice_get_within}
use Rattle.std.specs.List.{AllByRecursion}
use Rattle.conda_device.specs.declared.chan.Shown.{Shown}
use Rattle.conda_paths.specs.declared.row.Placeholder.{Placeholder}
use Rattle.conda_paths.specs.declared.row.Row.{Row}
use Rattle.conda_paths.specs.declared.row.RowKind.{RowKind}
use Rattle.conda_placing.specs.Content.{HasShortPadding, IsTooShort}
use Rattle.conda_placing.specs.Placing.{AreShown}
use Rattle.conda_placing.proofs.RowLemmas.{shown_length}
use Rattle.conda_placing.specs.Refusals.{RefusesContent, RefusesFilled}
use Rattle.conda_placing.specs.declared.error.PlacingErr.{PlacingErr}
use Rattle.conda_placing.specs.declared.package.Package.{Package}
use Rattle.conda_placing.specs.declared.placing.Origin.{Origin}

pub all_at : {X : Type 0} (P : X → Type 0) (xs : List X) (at : ℕ) (x : X) → AllByRecursion P xs → slice_get xs at ≡ Some x → P x
all_at P [] at x all e = absurd (none-some x e)
all_at P (y ∷ xs) zero x all e = subst P (same_Some y x e) all.0
all_at P (y ∷ xs) (suc at) x all e = all_at P xs at x all.1 e

-- nothing is shown at folders alone
pub shown_at : (rows : List Row) (shown : List (Option Shown)) (at : ℕ) (row : Row) (one : Option Shown) → AreShown rows shown
    → slice_get rows at ≡ Some row → slice_get shown at ≡ Some one → one ≡ None → row.kind ≡ RowKind.Folder
shown_at [] shown at row one are is_row is_one none = absurd (none-some row is_row)
shown_at (r ∷ rows) [] at row one are is_row is_one none = absurd are
shown_at (r ∷ rows) (o ∷ shown) zero row one are is_row is_one none =
    subst (λ (x : Row). x.kind ≡ RowKind.Folder) (same_Some r row is_row) (are.0 (same_Some o one is_one ∙ none))
shown_at (r ∷ rows) (o ∷ shown) (suc at) row one are is_row is_one none = shown_at rows shown at row one are.1 is_row is_one none

-- a row that is no folder's stands at the place
abbrev pub HasRow : List Row → ℕ → Type 0
HasRow rows at = (row : Row) × (slice_get rows at ≡ Some row) × (row.kind ≢ RowKind.Folder)

pub item_here : {X : Type 0} (items same : List X) (at : ℕ) (x : X) → at < length items → same ≡ items → x ≡ get_or same at x → slice_get items at ≡ Some x
item_here items same at x within are is = slice_get_read items (length items) at x refl within (subst (λ ys. x ≡ get_or ys at x) are is)

pub row_here : (rows same : List Row) (at : ℕ) (row : Row) → HasRow rows at → same ≡ rows → row ≡ get_or same at row → slice_get rows at ≡ Some row
row_here rows same at row has are is = item_here rows same at row (slice_get_within rows at has.0 has.1) are is

-- something or nothing is shown there
pub in_shown : (rows : List Row) (shown same : List (Option Shown)) (at : ℕ) → HasRow rows at → AreShown rows shown → same ≡ shown → at < length same
in_shown rows shown same at has are is =
    let within : at < length rows = slice_get_within rows at has.0 has.1 in omega (arith, within, shown_length rows shown are, ap length is)

pub shown_here : (rows : List Row) (shown same : List (Option Shown)) (at : ℕ) (one : Option Shown) → HasRow rows at → AreShown rows shown → same ≡ shown
    → one ≡ get_or same at one → slice_get shown at ≡ Some one
shown_here rows shown same at one has are same_is is = item_here shown same at one (in_shown rows shown shown at has are refl) same_is is

pub no_folder : (rows : List Row) (at : ℕ) (row : Row) → HasRow rows at → slice_get rows at ≡ Some row → row.kind ≢ RowKind.Folder
no_folder rows at row has is = subst (λ (r : Row). r.kind ≢ RowKind.Folder) (same_Some has.0 row (sym has.1 ∙ is)) has.2

-- there is room in the file of the row at a place
pub has_room : (pkg : Package) (prefix : List ℕ) (at : ℕ) (row : Row) (bytes : List ℕ) → slice_get pkg.listing.rows at ≡ Some row
    → ((placeholder : Placeholder) → ¬ IsTooShort row placeholder prefix bytes)
    → (path : List ℕ) (have need : ℕ) → ¬ HasShortPadding pkg prefix (Origin.Row at) bytes path have need
has_room pkg prefix at row bytes is_row room path have need h =
    room h.1 (subst (λ (r : Row). IsTooShort r h.1 prefix bytes) (same_Some h.0 row (sym h.2 ∙ is_row)) h.3)

-- there is none
pub refuses_at : (pkg : Package) (prefix : List ℕ) (at : ℕ) (row : Row) (bytes : List ℕ) (e : PlacingErr) → slice_get pkg.listing.rows at ≡ Some row
    → RefusesFilled row prefix bytes e → RefusesContent pkg prefix (Origin.Row at) bytes e
refuses_at pkg prefix at row bytes e is_row (inl h) =
    inl (row.path, length h.0.text, length prefix, (row, h.0, is_row, h.1, refl, refl, refl), h.2)
refuses_at pkg prefix at row bytes e is_row (inr is) = inr is
