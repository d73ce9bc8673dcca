-- The reports of `list` and `list --revisions`. This project's own.
use Rattle.std.specs.Prelude.{ℕ, ◌+◌, List, [], ◌∷◌, ◌++◌, codes, decimal, flat_map, IsPermutation, IsSorted}
use Rattle.std.specs.Ordering.{nat_cmp, ordering_then}
use Rattle.std.specs.declared.cmp.Ordering.{Ordering}
use Rattle.std.specs.Cmp.Lexicographic.{slice_cmp}
use Rattle.conda_history.specs.Stamps.{moment_text}
use Rattle.conda_history.specs.Texts.{added_line, removed_line}
use Rattle.conda_history.specs.declared.revision.Block.{Block}
use Rattle.conda_history.specs.declared.stamp.Stamp.{Stamp}
use Rattle.conda_path.specs.Dists.{dist_name, dist_version, dist_build}

-- by name, then by the whole dist
abbrev pub name_cmp : List ℕ → List ℕ → Ordering
name_cmp a b = ordering_then (slice_cmp nat_cmp (dist_name a) (dist_name b)) (slice_cmp nat_cmp a b)

-- the dists of the set, each once, in the order of their names
pub record IsByName (set dists : List (List ℕ)) : Type 0 where
  pub same : IsPermutation set dists
  pub ascending : IsSorted name_cmp dists

-- `NAME VERSION BUILD`
abbrev pub dist_line : List ℕ → List ℕ
dist_line dist = dist_name dist ++ 32 ∷ (dist_version dist ++ 32 ∷ (dist_build dist ++ 10 ∷ []))

-- a line that names the prefix, then a line for each dist
abbrev pub list_text : List ℕ → List (List ℕ) → List ℕ
list_text prefix dists = codes "# packages in environment at " ++ (prefix ++ 58 ∷ 10 ∷ flat_map dist_line dists)

-- `N YYYY-MM-DD HH:MM:SS`
abbrev pub heading_text : ℕ → Stamp → List ℕ
heading_text number stamp = decimal number ++ 32 ∷ (moment_text stamp ++ 10 ∷ [])

-- the heading, then the dists that the revision takes out of the set, then those that it brings in
abbrev pub revision_text : ℕ → Block → List ℕ
revision_text number change =
    heading_text number change.stamp ++ (flat_map removed_line change.removed ++ flat_map added_line change.added)

abbrev pub revisions_from : ℕ → List Block → List ℕ
revisions_from number [] = []
revisions_from number (change ∷ changes) = revision_text number change ++ revisions_from (number + 1) changes

-- the changes of the revisions, numbered from 0
abbrev pub revisions_text : List Block → List ℕ
revisions_text changes = revisions_from 0 changes
