-- What goes, what comes and what stays, and the paths that are changed.
use Rattle.std.specs.Prelude.{◌≡◌, ℕ, Bool, true, false, List, [], ◌∷◌, ◌++◌, is_some, map, Option, None, Some}
use Rattle.std.proofs.Common.{refl, ap, sym, ◌∙◌, subst, inl, inr, ◌⊎◌}
use Rattle.std.proofs.lemmas.Bool.{false≢true}
use Rattle.std.proofs.lemmas.Option.{same_Some}
use Rattle.std.proofs.lemmas.List.Elements.{Contains-append_cases, Contains-append_left, Contains-append_right}
use Rattle.std.specs.List.{AllByRecursion, Contains, flat_map, list_any}
use Rattle.conda_base.specs.Texts.{Ascending, is_text}
use Rattle.conda_path.specs.Dists.{IsDist}
use Rattle.conda_path.specs.declared.values.Good.{Good}
use Rattle.conda_paths.specs.Listings.{is_meta}
use Rattle.conda_goods.specs.Goods.{paths_of}
use Rattle.conda_goods.specs.declared.owner.Owner.{Owner}
use Rattle.conda_lane.specs.declared.change.Change.{Change}
use Rattle.conda_meta.specs.Folds.{last_of}
use Rattle.conda_meta.specs.Reading.{dists_of}
use Rattle.conda_meta.specs.Shows.{IsAside, history_path, prefix_path, revision_path}
use Rattle.conda_meta.specs.declared.folding.Folded.{Folded}
use Rattle.conda_meta.specs.declared.linked.Linked.{Linked}
use Rattle.conda_meta.specs.declared.revision.Revision.{Revision}
use Rattle.conda_plan.specs.Law.{IsSoundPlan}
use Rattle.conda_plan.specs.Packages.{AreInOrder}
use Rattle.conda_moves.specs.Coming.{coming, new_files, package_file, revision_file}
use Rattle.conda_moves.specs.Going.{Goes, IsGoingFile, IsGoingGood}
use Rattle.conda_plan.specs.Planning.{package_part}
use Rattle.conda_plan.proofs.AmongLemmas.{among, any_of}
use Rattle.conda_plan.proofs.LastLemmas.{alone, found, has_dist}
use Rattle.conda_plan.proofs.MemberLemmas.{all_at, front, of_flat, of_map, to_flat, to_map}
use Rattle.conda_plan.proofs.MetaPathLemmas.{aside_is_meta, history_is_meta, prefix_is_meta, prefix_no_history, prefix_not_aside, revision_is_meta, revision_no_history, revision_not_aside}

-- ---- what comes

abbrev pub IsNewGood : Revision → List ℕ → Type 0
IsNewGood revision path = (one : Linked) × Contains revision.linked one × Contains (paths_of one.goods) path

abbrev pub IsNewFile : Revision → List ℕ → Type 0
IsNewFile revision path = (one : Linked) × Contains revision.linked one × (path ≡ prefix_path one.rec.dist)

pub coming_good : (number : ℕ) (revision : Revision) (one : Linked) (good : Good) → Contains revision.linked one → Contains one.goods good
    → Contains (coming number revision) good
coming_good number revision one good m g =
    Contains-append_left (flat_map (λ x. x.goods) revision.linked) (map package_file revision.linked ++ revision_file number revision ∷ []) good
    (to_flat (λ x. x.goods) revision.linked one good m g)

pub coming_file : (number : ℕ) (revision : Revision) (one : Linked) → Contains revision.linked one
    → Contains (coming number revision) (package_file one)
coming_file number revision one m =
    Contains-append_right (flat_map (λ x. x.goods) revision.linked) (map package_file revision.linked ++ revision_file number revision ∷ []) (package_file one)
    (Contains-append_left (map package_file revision.linked) (revision_file number revision ∷ []) (package_file one)
    (to_map package_file revision.linked one m))

pub coming_revision : (number : ℕ) (revision : Revision) → Contains (coming number revision) (revision_file number revision)
coming_revision number revision =
    Contains-append_right (flat_map (λ x. x.goods) revision.linked) (map package_file revision.linked ++ revision_file number revision ∷ [])
    (revision_file number revision)
    (Contains-append_right (map package_file revision.linked) (revision_file number revision ∷ []) (revision_file number revision)
    (front (revision_file number revision) []))

pub coming_cases : (number : ℕ) (revision : Revision) (path : List ℕ) → Contains (paths_of (coming number revision)) path
    → IsNewGood revision path ⊎ IsNewFile revision path ⊎ (path ≡ revision_path number)
coming_cases number revision path m =
    let g = of_map (λ (good : Good). good.path) (coming number revision) path m in
    by g.0 g.2 (Contains-append_cases (flat_map (λ x. x.goods) revision.linked)
    (map package_file revision.linked ++ revision_file number revision ∷ []) g.0 g.1)
  where
    Cases : Type 0
    Cases = IsNewGood revision path ⊎ IsNewFile revision path ⊎ (path ≡ revision_path number)

    last : (good : Good) → good.path ≡ path
        → Contains (map package_file revision.linked) good ⊎ Contains (revision_file number revision ∷ []) good → Cases
    last good e (inl h) =
        let f = of_map package_file revision.linked good h in
        inr (inl (f.0, f.1, sym (ap (λ (x : Good). x.path) f.2 ∙ e)))
    last good e (inr h) = inr (inr (sym e ∙ all_at (λ x. x.path ≡ revision_path number) (revision_file number revision ∷ []) good (refl, tt) h))

    by : (good : Good) → good.path ≡ path → Contains (flat_map (λ x. x.goods) revision.linked) good
        ⊎ Contains (map package_file revision.linked ++ revision_file number revision ∷ []) good → Cases
    by good e (inl h) =
        let f = of_flat (λ (x : Linked). x.goods) revision.linked good h in
        inl (f.0, f.1, subst (λ p. Contains (paths_of f.0.goods) p) e (to_map (λ (x : Good). x.path) f.0.goods good f.2))
    by good e (inr h) = last good e (Contains-append_cases (map package_file revision.linked) (revision_file number revision ∷ []) good h)

-- ---- packages of a plan

pub outside : (packages : List Linked) (one : Linked) (path : List ℕ) → AreInOrder packages → Contains packages one
    → Contains (paths_of one.goods) path → is_meta path ≡ false
outside packages one path o m g =
    let f = of_map (λ (good : Good). good.path) one.goods path g in
    sym (ap is_meta f.2) ∙ all_at (λ good. is_meta good.path ≡ false) one.goods f.0
    (all_at (λ x. AllByRecursion (λ good. is_meta good.path ≡ false) x.goods) packages one o.outside m) f.1

pub one_of : (packages : List Linked) (a b : Linked) → Ascending (dists_of packages) → Contains packages a → Contains packages b
    → a.rec.dist ≡ b.rec.dist → a ≡ b
one_of packages a b o m n e =
    same_Some a b (sym (alone b.rec.dist packages a o m e) ∙ alone b.rec.dist packages b o n refl)

pub decided : (revision : Revision) (one : Linked) → Goes revision one ⊎ (¬ Goes revision one)
decided revision one = by (list_any (is_text one.rec.dist) revision.unlinked) refl (is_some (last_of one.rec.dist revision.linked)) refl
  where
    none : list_any (is_text one.rec.dist) revision.unlinked ≡ false → is_some (last_of one.rec.dist revision.linked) ≡ false
        → Goes revision one → ⊥
    none e f (inl u) = false≢true (sym e ∙ any_of one.rec.dist revision.unlinked u.0 u.1 u.2)
    none e f (inr l) = false≢true (sym f ∙ (has_dist one.rec.dist revision.linked).1 l)

    by : (v : Bool) → list_any (is_text one.rec.dist) revision.unlinked ≡ v → (w : Bool)
        → is_some (last_of one.rec.dist revision.linked) ≡ w
        → Goes revision one ⊎ (¬ Goes revision one)
    by true e w f = inl (inl (among one.rec.dist revision.unlinked e))
    by false e true f = inl (inr ((has_dist one.rec.dist revision.linked).0 f))
    by false e false f = inr (none e f)

-- ---- what stays

pub stays : {kept : Option Folded} {now target : Folded} {others altered trash : List (List ℕ)} {number : ℕ} {revision : Revision}
    {changes : List Change} → IsSoundPlan kept now target others altered trash number revision changes
    → (one : Linked) → Contains now.linked one → (Goes revision one → ⊥) → Contains target.linked one
stays {now = now} {target = target} {revision = revision} p one m not_going = by (last_of one.rec.dist target.linked) refl
  where
    by : (o : Option Linked) → last_of one.rec.dist target.linked ≡ o → Contains target.linked one
    by None e = absurd (not_going (inl ((p.plan.leads.unlinked one.rec.dist).1 (
      to_map (λ (x : Linked). x.rec.dist) now.linked one m,
      λ t. false≢true (ap is_some (sym e) ∙ (has_dist one.rec.dist target.linked).1 t),
    ))))
    by (Some y) e =
        let f = found one.rec.dist target.linked y e in
        let c : Contains now.linked y = p.carried y f.among (λ to_link. not_going (inr (subst (λ d. Contains (dists_of revision.linked) d) f.dist_is
        (to_map (λ (x : Linked). x.rec.dist) revision.linked y ((p.plan.leads.linked y).1 (f.among, to_link)))))) in
        subst (λ x. Contains target.linked x) (one_of now.linked y one p.now_in_order.by_dist c m f.dist_is) f.among

pub target_cases : {kept : Option Folded} {now target : Folded} {others altered trash : List (List ℕ)} {number : ℕ} {revision : Revision}
    {changes : List Change} → IsSoundPlan kept now target others altered trash number revision changes
    → (one : Linked) → Contains target.linked one → Contains revision.linked one ⊎ (Contains now.linked one × (¬ Goes revision one))
target_cases {now = now} {target = target} {revision = revision} p one m = by (last_of one.rec.dist revision.linked) refl
  where
    d : List ℕ
    d = one.rec.dist

    not_going : last_of d revision.linked ≡ None → Goes revision one → ⊥
    not_going e (inl u) = ((p.plan.leads.unlinked d).0 u).1 (to_map (λ (x : Linked). x.rec.dist) target.linked one m)
    not_going e (inr l) = false≢true (ap is_some (sym e) ∙ (has_dist d revision.linked).1 l)

    by : (o : Option Linked) → last_of d revision.linked ≡ o
        → Contains revision.linked one ⊎ (Contains now.linked one × (¬ Goes revision one))
    by None e = inr (
      p.carried one m (λ to_link. false≢true (ap is_some (sym e)
          ∙ ap is_some (alone d revision.linked one p.plan.leads.by_dist ((p.plan.leads.linked one).1 (m, to_link)) refl))),
      not_going e,
    )
    by (Some x) e =
        let f = found d revision.linked x e in
        inl (subst (λ y. Contains revision.linked y)
        (one_of target.linked x one p.target_in_order.by_dist ((p.plan.leads.linked x).0 f.among).0 m f.dist_is) f.among)

-- two packages of the target with one path are one
pub same_owner : {kept : Option Folded} {now target : Folded} {others altered trash : List (List ℕ)} {number : ℕ} {revision : Revision}
    {changes : List Change} → IsSoundPlan kept now target others altered trash number revision changes
    → (a b : Linked) (path : List ℕ) → Contains target.linked a → Contains target.linked b → Contains (paths_of a.goods) path
    → Contains (paths_of b.goods) path → (a.rec.dist ≡ b.rec.dist → ⊥) → ⊥
same_owner {target = target} {number = number} {revision = revision} p a b path m n g h apart =
    p.plan.free path (Some (Owner.Dist a.rec.dist)) (Some (Owner.Dist b.rec.dist)) record {
      two = λ e. apart (ap dist_of e);
      has = (package_part a, part a m, refl, g);
      above = (path, (package_part b, part b n, refl, h), inl refl);
    }
  where
    dist_of : Option Owner → List ℕ
    dist_of (Some (Owner.Dist x)) = x
    dist_of (Some Owner.Other) = []
    dist_of None = []

    part : (x : Linked) → Contains target.linked x → Contains (new_files number revision ++ map package_part target.linked) (package_part x)
    part x c = Contains-append_right (new_files number revision) (map package_part target.linked) (package_part x) (to_map package_part target.linked x c)

-- ---- the paths that are changed

abbrev pub ChangedBy : List Linked → Revision → ℕ → List ℕ → Type 0
ChangedBy now revision number path =
    IsGoingGood now revision path ⊎ IsGoingFile now revision path ⊎ Contains (paths_of (coming number revision)) path

-- such a path lies outside `conda-meta`, or is that of a meta file
abbrev pub IsSeat : Revision → ℕ → List ℕ → Type 0
IsSeat revision number path = (is_meta path ≡ false) ⊎ ((dist : List ℕ) × IsDist dist × (path ≡ prefix_path dist)) ⊎ (path ≡ revision_path number)

pub seat : {kept : Option Folded} {now target : Folded} {others altered trash : List (List ℕ)} {number : ℕ} {revision : Revision}
    {changes : List Change} → IsSoundPlan kept now target others altered trash number revision changes
    → (path : List ℕ) → ChangedBy now.linked revision number path → IsSeat revision number path
seat {now = now} {target = target} {number = number} {revision = revision} p path c = by c
  where
    linked : (one : Linked) → Contains revision.linked one → Contains target.linked one
    linked one m = ((p.plan.leads.linked one).0 m).0

    news : IsNewGood revision path ⊎ IsNewFile revision path ⊎ (path ≡ revision_path number) → IsSeat revision number path
    news (inl g) = inl (outside target.linked g.0 path p.target_in_order (linked g.0 g.1) g.2)
    news (inr (inl f)) = inr (inl (f.0.rec.dist, all_at (λ x. IsDist x.rec.dist) target.linked f.0 p.plan.target_made.dists (linked f.0 f.1), f.2))
    news (inr (inr e)) = inr (inr e)

    by : ChangedBy now.linked revision number path → IsSeat revision number path
    by (inl g) = inl (outside now.linked g.0 path p.now_in_order g.1 g.3)
    by (inr (inl f)) = inr (inl (f.0.rec.dist, all_at (λ x. IsDist x.rec.dist) now.linked f.0 p.plan.now_made.dists f.1, f.3))
    by (inr (inr m)) = news (coming_cases number revision path m)

pub seat_not_aside : (revision : Revision) (number : ℕ) (path : List ℕ) → IsSeat revision number path → IsAside path → ⊥
seat_not_aside revision number path (inl o) a = false≢true (sym o ∙ aside_is_meta path a)
seat_not_aside revision number path (inr (inl f)) a = prefix_not_aside f.0 f.1 (subst IsAside f.2 a)
seat_not_aside revision number path (inr (inr e)) a = revision_not_aside number (subst IsAside e a)

pub seat_no_history : (revision : Revision) (number : ℕ) (path : List ℕ) → IsSeat revision number path → path ≡ history_path → ⊥
seat_no_history revision number path (inl o) e = false≢true (sym o ∙ ap is_meta e ∙ history_is_meta)
seat_no_history revision number path (inr (inl f)) e = prefix_no_history f.0 (sym f.2 ∙ e)
seat_no_history revision number path (inr (inr r)) e = revision_no_history number (sym r ∙ e)

-- a good that comes, and isn't a meta file, is that of a package that is linked
pub new_good_of : (number : ℕ) (revision : Revision) (good : Good) → Contains (coming number revision) good → is_meta good.path ≡ false
    → (one : Linked) × Contains revision.linked one × Contains one.goods good
new_good_of number revision good m e = by (Contains-append_cases (flat_map (λ x. x.goods) revision.linked)
    (map package_file revision.linked ++ revision_file number revision ∷ []) good m)
  where
    last : Contains (map package_file revision.linked) good ⊎ Contains (revision_file number revision ∷ []) good
        → (one : Linked) × Contains revision.linked one × Contains one.goods good
    last (inl h) =
        let f = of_map package_file revision.linked good h in
        absurd (false≢true (sym e ∙ sym (ap (λ (x : Good). is_meta x.path) f.2) ∙ prefix_is_meta f.0.rec.dist))
    last (inr h) = absurd (false≢true (sym e ∙ all_at (λ (x : Good). is_meta x.path ≡ true) (revision_file number revision ∷ []) good (revision_is_meta number, tt) h))

    by : Contains (flat_map (λ x. x.goods) revision.linked) good
        ⊎ Contains (map package_file revision.linked ++ revision_file number revision ∷ []) good
        → (one : Linked) × Contains revision.linked one × Contains one.goods good
    by (inl h) = of_flat (λ (x : Linked). x.goods) revision.linked good h
    by (inr h) = last (Contains-append_cases (map package_file revision.linked) (revision_file number revision ∷ []) good h)
