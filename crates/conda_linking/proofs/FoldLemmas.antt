-- Revisions, and after them the one that leads from what they leave to a target, leave the target.
use Rattle.std.specs.Prelude.{◌≡◌, ℕ, Bool, true, false, cond, is_some, List, [], ◌∷◌, ◌++◌, Option, None, Some}
use Rattle.std.proofs.Common.{refl, ap, sym, ◌∙◌, subst}
use Rattle.std.proofs.lemmas.Bool.{false≢true}
use Rattle.std.proofs.lemmas.List.Folds.{Any-from_list_any, list_any_at}
use Rattle.std.proofs.lemmas.Option.{same_Some}
use Rattle.std.proofs.lemmas.Slice.Eq.{bytes_eq-Decides}
use Rattle.std.specs.List.{Contains, list_any}
use Rattle.std.specs.Option.{option_or}
use Rattle.conda_base.specs.Texts.{Ascending, is_text}
use Rattle.conda_spec.specs.Parts.{Parts}
use Rattle.conda_meta.specs.Folds.{IsFold, last_of, left, left_after, left_by, requested_after}
use Rattle.conda_meta.specs.Reading.{dists_of}
use Rattle.conda_meta.specs.declared.folding.Folded.{Folded}
use Rattle.conda_meta.specs.declared.linked.Linked.{Linked}
use Rattle.conda_meta.specs.declared.revision.Revision.{Revision}
use Rattle.conda_linking.specs.Laws.{FoldsToTarget}
use Rattle.conda_linking.specs.Linking.{AreCarried, IsRevisionTo}
use Rattle.conda_linking.proofs.DistLemmas.{alone, found, has_dist}

-- ---- the last revision

left_last : (dist : List ℕ) (before : Option Linked) (revisions : List Revision) (revision : Revision)
    → left_after dist before (revisions ++ revision ∷ []) ≡ left_by dist (left_after dist before revisions) revision
left_last dist before [] revision = refl
left_last dist before (first ∷ rest) revision = left_last dist (left_by dist before first) rest revision

requested_last : (before : List Parts) (revisions : List Revision) (revision : Revision)
    → requested_after before (revisions ++ revision ∷ []) ≡ revision.requested
requested_last before [] revision = refl
requested_last before (first ∷ rest) revision = requested_last first.requested rest revision

-- ---- dists among others

among : (dist : List ℕ) (dists : List (List ℕ)) → list_any (is_text dist) dists ≡ true → Contains dists dist
among dist dists h =
    let w = Any-from_list_any (is_text dist) dists h in
    subst (Contains dists) (sym ((bytes_eq-Decides dist w.1).0 w.4)) (w.0, w.2, w.3)

not_among : (dist : List ℕ) (dists : List (List ℕ)) → list_any (is_text dist) dists ≡ false → Contains dists dist → ⊥
not_among dist dists h m =
    false≢true (sym h ∙ list_any_at (is_text dist) dists m.0 dist m.1 ((bytes_eq-Decides dist _).1 (sym m.2)))

has_its_dist : (packages : List Linked) (one : Linked) → Ascending (dists_of packages) → Contains packages one
    → Contains (dists_of packages) one.rec.dist
has_its_dist packages one a m = (has_dist one.rec.dist packages).0 (ap is_some (alone one.rec.dist packages one a m refl))

-- ---- what the revision leaves of a package's dist

module _ (revisions : List Revision) (kept : Option Folded) (now target : Folded) (revision : Revision) (fold : IsFold revisions now)
    (ascend : Ascending (dists_of target.linked)) (carried : AreCarried kept now.linked target.linked)
    (leads : IsRevisionTo kept now target revision) where
  -- a package of the target that is of a dist of which none is linked stands as it is linked now
  as_it_is : (dist : List ℕ) (one : Linked) → last_of dist revision.linked ≡ None → one.rec.dist ≡ dist → Contains target.linked one
      → Contains now.linked one
  as_it_is dist one h e m = carried one m (λ t. by (sym h ∙ alone dist revision.linked one leads.by_dist ((leads.linked one).1 (m, t)) e))
    where
      by : None ≡ Some one → ⊥
      by e = cc

  to : (one : Linked) → Contains target.linked one → (o : Option Linked) → last_of one.rec.dist revision.linked ≡ o
      → (v : Bool) → list_any (is_text one.rec.dist) revision.unlinked ≡ v
      → option_or o (cond v None (left revisions one.rec.dist)) ≡ Some one
  to one m None h true g =
      absurd (((leads.unlinked one.rec.dist).0 (among one.rec.dist revision.unlinked g)).1 (has_its_dist target.linked one ascend m))
  to one m None h false g = (fold.linked one).0 (as_it_is one.rec.dist one h refl m)
  to one m (Some p) h v g =
      let f = found one.rec.dist revision.linked p h in
      sym (alone one.rec.dist target.linked p ascend ((leads.linked p).0 f.among).0 f.dist_is)
      ∙ alone one.rec.dist target.linked one ascend m refl

  -- what was there before stands in the target, unless its dist is unlinked
  stays : (one : Linked) → last_of one.rec.dist revision.linked ≡ None → list_any (is_text one.rec.dist) revision.unlinked ≡ false
      → Contains now.linked one → (o : Option Linked) → last_of one.rec.dist target.linked ≡ o
      → Contains target.linked one
  stays one h g m None i =
      absurd (not_among one.rec.dist revision.unlinked g ((leads.unlinked one.rec.dist).1
      (has_its_dist now.linked one fold.ascending m, λ n. false≢true (sym (ap is_some i) ∙ (has_dist one.rec.dist target.linked).1 n))))
  stays one h g m (Some two) i =
      let f = found one.rec.dist target.linked two i in
      let same : Some two ≡ Some one =
      sym (alone one.rec.dist now.linked two fold.ascending (as_it_is one.rec.dist two h f.dist_is f.among) f.dist_is)
      ∙ alone one.rec.dist now.linked one fold.ascending m refl in
      subst (Contains target.linked) (same_Some two one same) f.among

  back : (one : Linked) → (o : Option Linked) → last_of one.rec.dist revision.linked ≡ o
      → (v : Bool) → list_any (is_text one.rec.dist) revision.unlinked ≡ v
      → option_or o (cond v None (left revisions one.rec.dist)) ≡ Some one
      → Contains target.linked one
  back one None h true g e = cc
  back one None h false g e = stays one h g ((fold.linked one).1 e) (last_of one.rec.dist target.linked) refl
  back one (Some p) h v g e =
      subst (Contains target.linked) (same_Some p one e) ((leads.linked p).0 (found one.rec.dist revision.linked p h).among).0

  folds : IsFold (revisions ++ revision ∷ []) target
  folds = record {
    linked = λ one.
        let o = last_of one.rec.dist revision.linked in
        let v = list_any (is_text one.rec.dist) revision.unlinked in
        let last = left_last one.rec.dist None revisions revision in
        (λ m. last ∙ to one m o refl v refl, λ e. back one o refl v refl (sym last ∙ e));
    ascending = ascend;
    requested = sym leads.requested ∙ sym (requested_last [] revisions revision);
  }

pub folds_to_target : FoldsToTarget
folds_to_target = folds
