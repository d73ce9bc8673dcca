-- What the revisions of an environment leave together. This project's own.
use Rattle.std.specs.Prelude.{◌≡◌, ◌↔◌, ◌+◌, ℕ, if◌then◌else◌, List, [], ◌∷◌, take, Option, None, Some, option_copied}
use Rattle.std.specs.BTreeMap.{BTreeMap, get_by}
use Rattle.std.specs.Cmp.Lexicographic.{slice_cmp}
use Rattle.std.specs.List.{Contains, list_any}
use Rattle.std.specs.Option.{option_or}
use Rattle.std.specs.Ordering.{nat_cmp}
use denote.Ref.{Bor}
use Rattle.conda_base.specs.Texts.{Ascending, is_text}
use Rattle.conda_spec.specs.Parts.{Parts}
use Rattle.conda_meta.specs.Reading.{dists_of}
use Rattle.conda_meta.specs.declared.folding.Folded.{Folded}
use Rattle.conda_meta.specs.declared.linked.Linked.{Linked}
use Rattle.conda_meta.specs.declared.revision.Revision.{Revision}

-- ---- dist by dist

-- the package, if it is of this dist
abbrev pub if_of : List ℕ → Linked → Option Linked
if_of dist one = if is_text one.rec.dist dist then Some one else None

-- the last package of this dist, if there is one
abbrev pub last_of : List ℕ → List Linked → Option Linked
last_of dist [] = None
last_of dist (one ∷ rest) = option_or (last_of dist rest) (if_of dist one)

-- what was there, unless the dist is one of these
abbrev pub unless_among : List ℕ → List (List ℕ) → Option Linked → Option Linked
unless_among dist dists before = if list_any (is_text dist) dists then None else before

-- what a revision leaves of a dist: the package that it links, else nothing where it unlinks it, else what was there before
abbrev pub left_by : List ℕ → Option Linked → Revision → Option Linked
left_by dist before revision = option_or (last_of dist revision.linked) (unless_among dist revision.unlinked before)

-- what revisions leave of a dist, one after another, where this was there before them
abbrev pub left_after : List ℕ → Option Linked → List Revision → Option Linked
left_after dist before [] = before
left_after dist before (revision ∷ rest) = left_after dist (left_by dist before revision) rest

-- what revisions leave of a dist; before the first nothing is linked
abbrev pub left : List Revision → List ℕ → Option Linked
left revisions dist = left_after dist None revisions

-- ---- all together

-- the specifications that are requested after revisions: those of the last one, and none where there is none
abbrev pub requested_after : List Parts → List Revision → List Parts
requested_after before [] = before
requested_after before (revision ∷ rest) = requested_after revision.requested rest

-- The packages are those that the revisions leave, by dist, and the requested specifications those of the last.
pub record IsFold (revisions : List Revision) (folded : Folded) : Type 0 where
  pub linked : (one : Linked) → Contains folded.linked one ↔ (left revisions one.rec.dist ≡ Some one)
  pub ascending : Ascending (dists_of folded.linked)
  pub requested : folded.requested ≡ requested_after [] revisions

-- to revert to revision n is to leave what the revisions from 0 to n leave
abbrev pub IsRevertTo : ℕ → List Revision → Folded → Type 0
IsRevertTo n revisions folded = IsFold (take (n + 1) revisions) folded

-- ---- the packages by dist

-- the package that a map has of a dist
abbrev pub held : BTreeMap (Bor (List ℕ)) (Bor Linked) → List ℕ → Option Linked
held present dist = option_copied (get_by (λ k. slice_cmp nat_cmp dist k.now) present)
