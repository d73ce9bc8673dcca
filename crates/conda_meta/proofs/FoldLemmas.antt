-- What the revisions leave, as a map by dist keeps it.
use Rattle.std.specs.Prelude.{◌≡◌, ℕ, ◌+◌, ◌-◌, ◌<◌, Bool, true, false, cond, ◌||◌, List, [], ◌∷◌, length, map, slice_get, Option, None, Some, option_copied}
use Rattle.std.proofs.Common.{Bor, Ordering, refl, ap, sym, ◌∙◌, subst, drop, get_or, suc, zero, arith}
use Rattle.std.proofs.lemmas.List.{drop_more}
use Rattle.std.proofs.lemmas.List.Elements.{All-contains, All-map, recursion_from_All}
use Rattle.std.proofs.lemmas.Map.Text.{btree_map_updates_str}
use Rattle.std.proofs.lemmas.Map.Views.{All-found}
use Rattle.std.proofs.lemmas.Slice.Eq.{bytes_eq-Decides}
use Rattle.std.specs.BTreeMap.{BTreeMap, IsOrdered, UpdatesBy, get_by, is_at}
use Rattle.std.specs.Cmp.{IsTotalOrder}
use Rattle.std.specs.Cmp.Lexicographic.{nat_list_cmp_total, slice_cmp}
use Rattle.std.specs.List.{All, AllByRecursion, Contains, list_any}
use Rattle.std.specs.List.Sorted.{IsStrictlySortedBy}
use Rattle.std.specs.Map.{keys_of, lookup}
use Rattle.std.specs.Option.{IfSome, option_map_or, option_or}
use Rattle.std.specs.Ordering.{nat_cmp}
use Rattle.conda_base.specs.Texts.{Ascending, is_text}
use Rattle.conda_spec.specs.Parts.{Parts}
use Rattle.conda_meta.specs.Folds.{IsFold, held, last_of, left, left_after, left_by, requested_after, unless_among}
use Rattle.conda_meta.specs.Reading.{dists_of}
use Rattle.conda_meta.specs.declared.folding.Folded.{Folded}
use Rattle.conda_meta.specs.declared.linked.Linked.{Linked}
use Rattle.conda_meta.specs.declared.revision.Revision.{Revision}

-- ---- the map

abbrev Key : Type 0
Key = Bor (List ℕ)

abbrev by_text : Key → Key → Ordering
by_text x y = slice_cmp nat_cmp x.now y.now

abbrev Present : Type 0
Present = BTreeMap Key (Bor Linked)

by_text_total : IsTotalOrder by_text
by_text_total = record {
  antisymm = λ x y. nat_list_cmp_total.antisymm x.now y.now;
  trans = λ x y z. nat_list_cmp_total.trans x.now y.now z.now;
  congr = λ x y z. nat_list_cmp_total.congr x.now y.now z.now;
}

-- what a change at one text leaves of a dist
pub held_after : (text : List ℕ) (old now : Present) (w : Option (Bor Linked)) → UpdatesBy by_text (λ k. slice_cmp nat_cmp text k.now) old now w
    → (dist : List ℕ) → held now dist ≡ cond (is_text text dist) (option_copied w) (held old dist)
held_after text old now w u dist = ap option_copied (btree_map_updates_str text old now w u dist) ∙ by (is_text text dist)
  where
    by : (v : Bool) → option_copied (cond v w (get_by (λ k. slice_cmp nat_cmp dist k.now) old)) ≡ cond v (option_copied w) (held old dist)
    by true = refl
    by false = refl

-- ---- the loops

item_first : {A : Type 0} (xs items : List A) (i : ℕ) (x : A) → items ≡ xs → x ≡ get_or items i x → i < length items → drop i xs ≡ x ∷ drop (i + 1) xs
item_first {A} xs items i x e is short =
    subst (λ (ys : List A). drop i ys ≡ x ∷ drop (i + 1) ys) e (drop_more items i x short ∙ ap (λ y. y ∷ drop (i + 1) items) (sym is))

is_text_turned : (x y : List ℕ) → is_text x y ≡ is_text y x
is_text_turned x y = by (is_text x y) (is_text y x) refl refl
  where
    by : (v w : Bool) → is_text x y ≡ v → is_text y x ≡ w → v ≡ w
    by true true e f = refl
    by false false e f = refl
    by true false e f = sym ((bytes_eq-Decides y x).1 (sym ((bytes_eq-Decides x y).0 e))) ∙ f
    by false true e f = sym e ∙ (bytes_eq-Decides x y).1 (sym ((bytes_eq-Decides y x).0 f))

pub unless_step : (dists items : List (List ℕ)) (i : ℕ) (d text dist : List ℕ) (before now : Option Linked)
    → items ≡ dists → d ≡ get_or items i d → i < length items → text ≡ d → now ≡ cond (is_text text dist) None before
    → unless_among dist (drop (i + 1) dists) now ≡ unless_among dist (drop i dists) before
unless_step dists items i d text dist before now e is short t h =
    let rest = drop (i + 1) dists in
    ap (unless_among dist rest) (h ∙ ap (λ x. cond x None before) (ap (λ x. is_text x dist) t ∙ is_text_turned d dist))
    ∙ by (is_text dist d) (list_any (is_text dist) rest)
    ∙ ap (λ ds. unless_among dist ds before) (sym (item_first dists items i d e is short))
  where
    by : (v w : Bool) → cond w None (cond v None before) ≡ cond (v || w) None before
    by true true = refl
    by true false = refl
    by false w = refl

pub last_step : (linked items : List Linked) (i : ℕ) (one : Linked) (text dist : List ℕ) (before now : Option Linked)
    → items ≡ linked → one ≡ get_or items i one → i < length items → text ≡ one.rec.dist → now ≡ cond (is_text text dist) (Some one) before
    → option_or (last_of dist (drop (i + 1) linked)) now ≡ option_or (last_of dist (drop i linked)) before
last_step linked items i one text dist before now e is short t h =
    let rest = drop (i + 1) linked in
    ap (option_or (last_of dist rest)) (h ∙ ap (λ x. cond (is_text x dist) (Some one) before) t)
    ∙ by (last_of dist rest) (is_text one.rec.dist dist)
    ∙ ap (λ xs. option_or (last_of dist xs) before) (sym (item_first linked items i one e is short))
  where
    by : (o : Option Linked) (v : Bool) → option_or o (cond v (Some one) before) ≡ option_or (option_or o (cond v (Some one) None)) before
    by None true = refl
    by None false = refl
    by (Some x) v = refl

-- ---- the last requested specifications

last_at : (revs : List Revision) (before : List Parts) (n : ℕ) (r : Revision) → length revs ≡ suc n → slice_get revs n ≡ Some r → requested_after before revs ≡ r.requested
last_at [] before n r e s = absurd (omega (arith, e))
last_at (x ∷ []) before zero r e s = ap (λ o. option_map_or (λ (v : Revision). v.requested) o []) s
last_at (x ∷ y ∷ rest) before zero r e s = absurd (omega (arith, e))
last_at (x ∷ rest) before (suc n) r e s = last_at rest x.requested n r (omega (arith, e)) s

pub last_requested : (revs : List Revision) (r : Revision) → slice_get revs (length revs - 1) ≡ Some r → requested_after [] revs ≡ r.requested
last_requested [] r s = cc
last_requested (x ∷ rest) r s =
    let e : length (x ∷ rest) - 1 ≡ length rest = omega arith in
    last_at (x ∷ rest) [] (length rest) r refl (subst (λ n. slice_get (x ∷ rest) n ≡ Some r) e s)

-- ---- what is left of a dist is of this dist

abbrev IsOf : List ℕ → Option Linked → Type 0
IsOf dist o = IfSome o (λ one. one.rec.dist ≡ dist)

last_is_of : (dist : List ℕ) (linked : List Linked) → IsOf dist (last_of dist linked)
last_is_of dist [] = tt
last_is_of dist (one ∷ rest) = by (last_of dist rest) (is_text one.rec.dist dist) refl (last_is_of dist rest)
  where
    by : (o : Option Linked) (v : Bool) → is_text one.rec.dist dist ≡ v → IsOf dist o → IsOf dist (option_or o (cond v (Some one) None))
    by None true e h = (bytes_eq-Decides one.rec.dist dist).0 e
    by None false e h = tt
    by (Some x) v e h = h

left_is_of : (dist : List ℕ) (revs : List Revision) (before : Option Linked) → IsOf dist before → IsOf dist (left_after dist before revs)
left_is_of dist [] before h = h
left_is_of dist (r ∷ revs) before h =
    left_is_of dist revs (left_by dist before r) (by (last_of dist r.linked) (list_any (is_text dist) r.unlinked) (last_is_of dist r.linked))
  where
    by : (o : Option Linked) (v : Bool) → IsOf dist o → IsOf dist (option_or o (cond v None before))
    by None true g = tt
    by None false g = h
    by (Some x) v g = g

-- ---- the packages of the map

abbrev packages : List (Key × Bor Linked) → List Linked
packages entries = map (λ entry. entry.1.now) entries

in_packages : (dist : List ℕ) (entries : List (Key × Bor Linked)) (one : Linked)
    → option_copied (lookup (is_at (λ k. slice_cmp nat_cmp dist k.now)) entries) ≡ Some one → Contains (packages entries) one
in_packages dist [] one h = cc
in_packages dist (entry ∷ entries) one h = by (is_at (λ k. slice_cmp nat_cmp dist k.now) entry.0) h (in_packages dist entries one)
  where
    by : (v : Bool) → option_copied (cond v (Some entry.1) (lookup (is_at (λ k. slice_cmp nat_cmp dist k.now)) entries)) ≡ Some one
        → (option_copied (lookup (is_at (λ k. slice_cmp nat_cmp dist k.now)) entries) ≡ Some one → Contains (packages entries) one)
        → Contains (packages (entry ∷ entries)) one
    by true g f = (0, omega arith, ap (λ o. option_map_or (λ (x : Linked). x) o one) g)
    by false g f = let r = f g in (suc r.0, omega (arith, r.1), r.2)

-- each entry is what is left of its key, and of this dist
record IsLeftAt (revs : List Revision) (entry : Key × Bor Linked) : Type 0 where
  dist : entry.1.now.rec.dist ≡ entry.0.now
  left_is : left revs entry.1.now.rec.dist ≡ Some entry.1.now

entry_left : (revs : List Revision) (present : Present) → ((dist : List ℕ) → held present dist ≡ left revs dist) → (entry : Key × Bor Linked)
    → held present entry.0.now ≡ Some entry.1.now → IsLeftAt revs entry
entry_left revs present is entry h =
    let l : left revs entry.0.now ≡ Some entry.1.now = sym (is entry.0.now) ∙ h in
    let d : entry.1.now.rec.dist ≡ entry.0.now = subst (IsOf entry.0.now) l (left_is_of entry.0.now revs None tt) in
    record { dist = d; left_is = subst (λ x. left revs x ≡ Some entry.1.now) (sym d) l }

entries_left : (revs : List Revision) (present : Present) → ((dist : List ℕ) → held present dist ≡ left revs dist) → IsOrdered by_text present → All (IsLeftAt revs) present.entries
entries_left revs present is s = λ k d lt.
    let entry = get_or present.entries k d in
    entry_left revs present is entry (ap option_copied (All-found by_text_total present s k d lt))

ascend : (revs : List Revision) (entries : List (Key × Bor Linked)) → AllByRecursion (IsLeftAt revs) entries → IsStrictlySortedBy by_text (keys_of entries) → Ascending (dists_of (packages entries))
unfolding IsStrictlySortedBy
ascend revs [] h s = tt
ascend revs (x ∷ []) h s = (tt, tt)
ascend revs (x ∷ y ∷ rest) h s =
    (ap (λ d. slice_cmp nat_cmp d y.1.now.rec.dist) h.0.dist ∙ ap (slice_cmp nat_cmp x.0.now) h.1.0.dist ∙ s.0.0, ascend revs (y ∷ rest) h.1 s.1)

pub is_fold : (revs : List Revision) (present : Present) (folded : Folded) → ((dist : List ℕ) → held present dist ≡ left revs dist)
    → IsOrdered by_text present → folded.linked ≡ packages present.entries → folded.requested ≡ requested_after [] revs → IsFold revs folded
is_fold revs present folded is s l r =
    let all = entries_left revs present is s in
    record {
      linked = λ one. (
        λ h. All-contains (λ x. left revs x.rec.dist ≡ Some x) (packages present.entries) one
            (All-map (λ x. left revs x.rec.dist ≡ Some x) (λ entry. entry.1.now) present.entries (λ k d lt. (all k d lt).left_is))
            (subst (λ xs. Contains xs one) l h),
        λ h. subst (λ xs. Contains xs one) (sym l) (in_packages one.rec.dist present.entries one (is one.rec.dist ∙ h)),
      );
      ascending = subst (λ xs. Ascending (dists_of xs)) (sym l) (ascend revs present.entries (recursion_from_All (IsLeftAt revs) present.entries all) s);
      requested = r;
    }
