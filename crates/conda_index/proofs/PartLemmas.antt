-- What the tests of parts and virtual packages say together.
use Rattle.std.specs.Prelude.{◌≡◌, ◌↔◌, ℕ, ◌+◌, ◌<◌, ◌≤◌, List, [], ◌∷◌, ◌++◌, All, length}
use Rattle.std.proofs.Common.{get_or, subst, take}
use Rattle.std.proofs.lemmas.List.Elements.{All-append, All-cons, All-head, All-nil, All-tail}
use Rattle.std.proofs.lemmas.List.Folds.{length-flat_map-take}
use Rattle.conda_record.specs.declared.pkg_record.PkgRecord.{PkgRecord}
use Rattle.conda_repodata.specs.declared.repodata.Repodata.{Repodata}
use Rattle.conda_encode.specs.Fit.{NeedsPlainly}
use Rattle.conda_index.specs.Pools.{NamesPlainly, given}

front : {X : Type 0} (P : X → Type 0) (xs ys : List X) → All P (xs ++ ys) → All P xs
front P [] ys h = All-nil P
front P (x ∷ xs) ys h = All-cons P x xs (All-head P x (xs ++ ys) h) (front P xs ys (All-tail P x (xs ++ ys) h))

back : {X : Type 0} (P : X → Type 0) (xs ys : List X) → All P (xs ++ ys) → All P ys
back P [] ys h = h
back P (x ∷ xs) ys h = back P xs ys (All-tail P x (xs ++ ys) h)

plain : (recs : List PkgRecord) → All NeedsPlainly recs ↔ All NamesPlainly recs
unfolding NeedsPlainly
plain recs = (λ h. h, λ h. h)

-- no entry of a part's records names packages by a star
abbrev pub IsPlainPart : Repodata → Type 0
IsPlainPart part = All NeedsPlainly part.recs

pub plain_parts : (parts : List Repodata) → All IsPlainPart parts ↔ All NamesPlainly (given parts)
plain_parts [] = (λ h. All-nil NamesPlainly, λ h. All-nil IsPlainPart)
plain_parts (part ∷ parts) = (
  λ h. All-append NamesPlainly part.recs (given parts) ((plain part.recs).0 (All-head IsPlainPart part parts h))
      ((plain_parts parts).0 (All-tail IsPlainPart part parts h)),
  λ h. All-cons IsPlainPart part parts ((plain part.recs).1 (front NamesPlainly part.recs (given parts) h))
      ((plain_parts parts).1 (back NamesPlainly part.recs (given parts) h)),
)

-- the records of some parts and of the next one are among all
pub with_one : (parts : List Repodata) (i : ℕ) (part : Repodata) → i < length parts → get_or parts i part ≡ part
    → length (given (take i parts)) + length part.recs ≤ length (given parts)
with_one parts i part lt e =
    subst (λ (p : Repodata). length (given (take i parts)) + length p.recs ≤ length (given parts)) e
    (length-flat_map-take (λ (p : Repodata). p.recs) parts i part lt)
