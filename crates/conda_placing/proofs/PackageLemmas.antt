-- Listings and link files that are read are as a package has them.
use Rattle.std.specs.Prelude.{◌≡◌, ◌≢◌, ◌↔◌, ℕ, ◌<◌, Bool, List, [], ◌∷◌, length, Option, None, Some, IfSome, option_map, Ok, Err}
use Rattle.std.proofs.Common.{refl, sym, subst, inl, inr, arith}
use Rattle.std.specs.List.{AllByRecursion}
use Rattle.serde_json.specs.Data.{Data, Items, no_items, item}
use Rattle.conda_base.specs.Reads.{Read}
use Rattle.conda_json.specs.Fields.{or_fault}
use Rattle.conda_json.specs.Json.{object_read}
use Rattle.conda_json.specs.Shown.{bound, same}
use Rattle.conda_json.specs.declared.error.JsonErr.{JsonErr}
use Rattle.conda_paths.specs.Listings.{listing_of, listing_read}
use Rattle.conda_paths.specs.Rules.{AreRows, IsListing, IsOfKind}
use Rattle.conda_paths.specs.declared.error.ListingWhy.{ListingWhy}
use Rattle.conda_paths.specs.declared.listing.Listing.{Listing}
use Rattle.conda_paths.specs.declared.row.Placeholder.{Placeholder}
use Rattle.conda_paths.specs.declared.row.Row.{Row}
use Rattle.conda_paths.specs.declared.row.RowKind.{RowKind}
use Rattle.conda_link.specs.Links.{link_of, noarch_read}
use Rattle.conda_link.specs.Rules.{AreEntries, HasEntries, IsLinkFile}
use Rattle.conda_link.specs.declared.info.EntryPoint.{EntryPoint}
use Rattle.conda_link.specs.declared.info.LinkInfo.{LinkInfo}
use Rattle.conda_placing.specs.Placing.{IsLinkEntry, IsListed}

-- ---- rows

abbrev IsSomePlaceholder : Option Placeholder → Type 0
IsSomePlaceholder placeholder = IfSome placeholder (λ one. 0 < length one.text)

not_empty : (text : Option (List ℕ)) (binary : Bool) → text ≢ Some [] → IsSomePlaceholder (option_map (λ t. record { text = t; binary = binary }) text)
not_empty None binary some = tt
not_empty (Some []) binary some = absurd (some refl)
not_empty (Some (b ∷ bs)) binary some = omega arith

placeholder_of : (kind : RowKind) (value : Data) (row : Row) → IsOfKind kind value row → IsSomePlaceholder row.placeholder
placeholder_of RowKind.Hard value row is = subst IsSomePlaceholder (sym is.placeholder) (not_empty is.text is.binary is.not_empty)
placeholder_of RowKind.Soft value row is = subst (λ (r : Row). IsSomePlaceholder r.placeholder) (sym is) tt
placeholder_of RowKind.Folder value row is = subst (λ (r : Row). IsSomePlaceholder r.placeholder) (sym is) tt

listed : (elements : Items) (rows : List Row) → AreRows elements rows → AllByRecursion IsListed rows
listed no_items [] are = tt
listed no_items (row ∷ rows) are = absurd are
listed (item value rest) [] are = absurd are
listed (item value rest) (row ∷ rows) are =
    (record { outside = are.0.outside; placeholder = placeholder_of row.kind value row are.0.rest }, listed rest rows are.1)

-- what is said of a listing that is read of an object
abbrev pub ListingRule : Type 0
ListingRule = (value : Data) (listing : Listing) → (listing_of value ≡ Ok listing) ↔ IsListing value listing

pub listing_law : ListingRule → (bytes : List ℕ) (listing : Listing) → listing_read bytes ≡ Ok listing → AllByRecursion IsListed listing.rows
listing_law rule bytes listing e =
    let value = bound (or_fault (object_read bytes) (0, ListingWhy.Json)) listing_of listing e in
    let is = (rule value.0 listing).0 value.2 in
    listed is.elements listing.rows is.rows

-- ---- entry points

commands : (elements : Items) (entries : List EntryPoint) → AreEntries elements entries → AllByRecursion IsLinkEntry entries
commands no_items [] are = tt
commands no_items (entry ∷ entries) are = absurd are
commands (item value rest) [] are = absurd are
commands (item value rest) (entry ∷ entries) are = (are.0.2.good_command, commands rest entries are.1)

-- what is said of the entry points that are read of an object
abbrev pub LinkRule : Type 0
LinkRule = (value : Data) (entries : List EntryPoint) → (noarch_read value ≡ Ok entries) ↔ IsLinkFile value entries

has_commands : (noarch : Data) (entries : List EntryPoint) → HasEntries noarch entries → AllByRecursion IsLinkEntry entries
has_commands noarch entries (inl none) = subst (AllByRecursion IsLinkEntry) (sym none.1) tt
has_commands noarch entries (inr some) = commands some.0 entries some.2

abbrev link_with : List EntryPoint → LinkInfo
link_with entries = record { entries = entries }

pub link_law : LinkRule → (read : Read Data JsonErr) (link : LinkInfo) → link_of read ≡ Ok link → AllByRecursion IsLinkEntry link.entries
link_law rule (Ok value) link e =
    let entries = bound (noarch_read value) (λ entries. Ok (link_with entries)) link e in
    let is = (rule value entries.0).0 entries.1 in
    subst (λ (l : LinkInfo). AllByRecursion IsLinkEntry l.entries) (same (link_with entries.0) link entries.2) (has_commands is.0 entries.0 is.2)
link_law rule (Err fault) link e = cc e
