-- Erasing the trash, change after change.
use Rattle.std.proofs.Common.{◌≡◌, ◌⊎◌, inl, inr, ◌||◌, ℕ, zero, suc, ◌+◌, ◌-◌, ◌^◌, ◌<◌, ◌≤◌, min, nat_eq, List, [], ◌∷◌, ◌++◌, drop, take, length, get_or, Bool, true, false, Option, Some, None, refl, ap, subst, sym, ◌∙◌, arith, length-append}
use Rattle.std.specs.Prelude.{All, AllPairs}
use Rattle.std.specs.List.{list_any}
use Rattle.std.proofs.lemmas.List.Folds.{list_any-append}
use Rattle.std.proofs.lemmas.List.Quantifiers.{all_pairs_push}
use Rattle.std.proofs.lemmas.List.Elements.{All-append, All-cons, All-nil}
use Rattle.std.proofs.Math.Seq.{drop-append_seam}
use Rattle.conda_path.specs.declared.values.Node.{Node}
use Rattle.conda_device.specs.Fault.{Rose}
use Rattle.conda_device.specs.Tree.{Tree}
use Rattle.conda_lane.specs.declared.change.Change.{Change}
use Rattle.conda_lane.specs.Calls.{Leads}
use Rattle.conda_lane.specs.Changes.{AreApart, at}
use Rattle.conda_lane.specs.Purge.{IsErased, IsLeft, IsPurged, IsPurgedAt, IsPurgedTrash, erased_trash}
use Rattle.conda_lane.specs.Steps.{Effect, Goes, IsErasedOrLeft, Stage, Walk}
use Rattle.conda_lane.proofs.WalkLemmas.{IsLocal, leads_map, leads_then, walk_end, walk_first, walk_more}

-- the effect of the step: of these changes the erasing failed
abbrev pub Purged : List ℕ → Effect
Purged left number before now c = IsPurgedAt left before now number c

purged_local : (left : List ℕ) → IsLocal (Purged left)
purged_local left = record {
  now = λ i before mid now c same h. record {
    path = same.path ∙ h.path;
    trash = subst (λ o. IsPurgedTrash left i c.old (at before c.trash) o) (sym same.trash) h.trash;
  };
  before = λ i before mid now c same h. record {
    path = h.path ∙ same.path;
    trash = subst (λ o. IsPurgedTrash left i c.old o (at now c.trash)) same.trash h.trash;
  };
}

-- ---- the numbers that are left

left_more : (left more : List ℕ) (i : ℕ) → IsLeft left i → IsLeft (left ++ more) i
left_more left more i h = list_any-append (nat_eq i) left more ∙ ap (λ b. b || list_any (nat_eq i) more) h

or_true : (b : Bool) → (b || true) ≡ true
or_true true = refl
or_true false = refl

self : (i : ℕ) → nat_eq i i ≡ true
self i = grind arith

left_last : (left : List ℕ) (i : ℕ) → IsLeft (left ++ i ∷ []) i
left_last left i =
    list_any-append (nat_eq i) left (i ∷ []) ∙ ap (λ b. list_any (nat_eq i) left || (b || false)) (self i) ∙ or_true (list_any (nat_eq i) left)

trash_more : (left more : List ℕ) (i : ℕ) (old : Bool) (before now : Option Node) → IsPurgedTrash left i old before now → IsPurgedTrash (left ++ more) i old before now
trash_more left more i false before now h = h
trash_more left more i true before now h = elim h [
  | inl gone ↦ inl gone
  | inr stays ↦ inr (left_more left more i stays.0, stays.1)
]

stage_more_left : (left more : List ℕ) (before now : Tree) (k i : ℕ) (cs : List Change) → Stage (Purged left) before now k i cs → Stage (Purged (left ++ more)) before now k i cs
stage_more_left left more before now k i [] h = tt
stage_more_left left more before now k zero (c ∷ cs) h = (h.0, stage_more_left left more before now (k + 1) zero cs h.1)
stage_more_left left more before now k (suc i) (c ∷ cs) h =
    (record { path = h.0.path; trash = trash_more left more k c.old (at before c.trash) (at now c.trash) h.0.trash }, stage_more_left left more before now (k + 1) i cs h.1)

walk_more_left : (left more : List ℕ) (i : ℕ) (cs : List Change) (before now : Tree) → Walk (Purged left) i cs before now → Walk (Purged (left ++ more)) i cs before now
walk_more_left left more i cs before now walk = record { each = stage_more_left left more before now 0 i cs walk.each; others = walk.others }

-- ---- one step

erased_purged : (left : List ℕ) (i : ℕ) (old : Bool) (before now : Option Node) → now ≡ erased_trash old before → IsPurgedTrash left i old before now
erased_purged left i false before now h = h
erased_purged left i true before now h = inl h

left_purged : (left : List ℕ) (i : ℕ) (old : Bool) (before : Option Node) → IsLeft left i → IsPurgedTrash left i old before before
left_purged left i false before h = refl
left_purged left i true before h = inr (h, refl)

erased_goes : (left : List ℕ) (i : ℕ) (c : Change) (before now : Tree) → Goes IsErased c before now → Goes (Purged left i) c before now
erased_goes left i c before now goes = record {
  own = record { path = goes.own.path; trash = erased_purged left i c.old (at before c.trash) (at now c.trash) goes.own.trash };
  others = goes.others;
}

left_goes : (left : List ℕ) (i : ℕ) (c : Change) (tree : Tree) → IsLeft left i → Goes (Purged left i) c tree tree
left_goes left i c tree h = record { own = record { path = refl; trash = left_purged left i c.old (at tree c.trash) h }; others = λ p path trash. refl }

stays_goes : (left : List ℕ) (i : ℕ) (c : Change) (t : Option Tree) → IsLeft left i → Leads (Goes (Purged left i) c) t t
stays_goes left i c None h = tt
stays_goes left i c (Some tree) h = left_goes left i c tree h

-- ---- how far the loop has come

pub record Purging (first : List ℕ) (faults : ℕ) (told : Option Tree) (i : ℕ) (cs : List Change) (left : List ℕ) (later : ℕ) (now : Option Tree) : Type 0 where
  failed : List ℕ
  is : left ≡ first ++ failed
  told_now : Leads (Walk (Purged failed) i cs) told now
  ascending : AllPairs (λ x y. x < y) failed
  numbers : All (λ n. n < i) failed
  count : min (faults + length failed) (2 ^ 64 - 1) ≤ later
  later_is : faults ≤ later
  few : length failed ≤ i

append_nil : (xs : List ℕ) → xs ≡ xs ++ []
append_nil [] = refl
append_nil (x ∷ xs) = ap (λ ys. x ∷ ys) (append_nil xs)

append_last : (xs ys : List ℕ) (z : ℕ) → (xs ++ ys) ++ z ∷ [] ≡ xs ++ (ys ++ z ∷ [])
append_last [] ys z = refl
append_last (x ∷ xs) ys z = ap (λ zs. x ∷ zs) (append_last xs ys z)

pub purging_first : (first : List ℕ) (faults : ℕ) (told : Option Tree) (cs : List Change) → Purging first faults told 0 cs first faults told
purging_first first faults told cs = record {
  failed = [];
  is = append_nil first;
  told_now = walk_first (Purged []) cs told;
  ascending = λ i j d before below. absurd (omega (arith, below));
  numbers = All-nil (λ n. n < 0);
  count = omega arith;
  later_is = omega arith;
  few = omega arith;
}

module _ (first : List ℕ) (faults : ℕ) (told : Option Tree) (i : ℕ) (c : Change) (cs : List Change) (apart : AreApart cs) (below : i < length cs) (is : c ≡ get_or cs i c)
    (left more : List ℕ) (later last : ℕ) (now next : Option Tree) (before : Purging first faults told i cs left later now) (rises : later ≤ last) where
  below_more : All (λ n. n < i) before.failed → All (λ n. n < i + 1) before.failed
  below_more h = λ k d at. let less = h k d at in omega (arith, less)

  walk_on : (failed : List ℕ) → Leads (Walk (Purged failed) i cs) told now → Leads (Goes (Purged failed i) c) now next → Leads (Walk (Purged failed) (i + 1) cs) told next
  walk_on failed walk goes = leads_then (λ one mid other w g. walk_more (Purged failed) (purged_local failed) one mid other i c cs apart below is w g) told now next walk goes

  erased_more : more ≡ left → Leads (Goes IsErased c) now next → Purging first faults told (i + 1) cs more last next
  erased_more same goes = record {
    failed = before.failed;
    is = same ∙ before.is;
    told_now = walk_on before.failed before.told_now (leads_map (λ one other g. erased_goes before.failed i c one other g) now next goes);
    ascending = before.ascending;
    numbers = below_more before.numbers;
    count = let h = before.count in omega (arith, h, rises);
    later_is = let h = before.later_is in omega (arith, h, rises);
    few = let h = before.few in omega (arith, h);
  }

  left_one_more : more ≡ left ++ i ∷ [] → Rose later last → ((next ≡ now) ⊎ Leads (Goes IsErased c) now next) → Purging first faults told (i + 1) cs more last next
  left_one_more same rose went =
      let failed = before.failed ++ i ∷ [] in
      let goes : Leads (Goes (Purged failed i) c) now next = elim went [
        | inl stays ↦ subst (λ x. Leads (Goes (Purged failed i) c) now x) (sym stays) (stays_goes failed i c now (left_last before.failed i))
        | inr erased ↦ leads_map (λ one other g. erased_goes failed i c one other g) now next erased
      ] in
      let len : length failed ≡ length before.failed + 1 = length-append before.failed (i ∷ []) in
      record {
        failed = failed;
        is = same ∙ ap (λ xs. xs ++ i ∷ []) before.is ∙ append_last first before.failed i;
        told_now = walk_on failed (leads_map (λ one other w. walk_more_left before.failed (i ∷ []) i cs one other w) told now before.told_now) goes;
        ascending = all_pairs_push (λ x y. x < y) before.failed i before.ascending (λ k d at. before.numbers k d at);
        numbers =
            let last_one : i < i + 1 = omega arith in
            All-append (λ n. n < i + 1) before.failed (i ∷ []) (below_more before.numbers) (All-cons (λ n. n < i + 1) i [] last_one (All-nil (λ n. n < i + 1)));
        count = let h = before.count in omega (arith, h, rose, len);
        later_is = let h = before.later_is in omega (arith, h, rises);
        few = let h = before.few in omega (arith, h, len);
      }

  pub purging_more : IsErasedOrLeft i left more c now next later last → Purging first faults told (i + 1) cs more last next
  purging_more h = elim h [
    | inl erased ↦ erased_more erased.0 erased.1
    | inr failed ↦ left_one_more failed.0 failed.1 failed.2
  ]

-- ---- behind the last

take_first : (xs ys : List ℕ) → take (length xs) (xs ++ ys) ≡ xs
take_first [] ys = refl
take_first (x ∷ xs) ys = ap (λ zs. x ∷ zs) (take_first xs ys)

module _ (first : List ℕ) (faults : ℕ) (told : Option Tree) (i : ℕ) (cs : List Change) (all : length cs ≤ i) (le : i ≤ length cs)
    (left : List ℕ) (later : ℕ) (now : Option Tree) (n m : ℕ) (is_n : n ≡ length first) (is_m : m ≡ length left) (done : Purging first faults told i cs left later now) where
  failed_is : done.failed ≡ drop n left
  failed_is = sym (ap (λ k. drop k left) is_n ∙ ap (drop (length first)) done.is ∙ drop-append_seam first done.failed)

  pub purging_tree : Leads (λ before after. IsPurged (drop n left) before after cs) told now
  purging_tree =
      subst (λ xs. Leads (λ before after. IsPurged xs before after cs) told now) failed_is
      (leads_map (λ before after w. record { each = walk_end (Purged done.failed) before after i cs all w; others = w.others }) told now done.told_now)

  pub purging_kept : take n left ≡ first
  purging_kept = ap (λ k. take k left) is_n ∙ ap (take (length first)) done.is ∙ take_first first done.failed

  pub purging_ascending : AllPairs (λ x y. x < y) (drop n left)
  purging_ascending = subst (λ xs. AllPairs (λ x y. x < y) xs) failed_is done.ascending

  pub purging_numbers : All (λ k. k < length cs) (drop n left)
  purging_numbers = subst (λ xs. All (λ k. k < length cs) xs) failed_is (λ k d at. let less = done.numbers k d at in omega (arith, less, le))

  pub purging_count : min (faults + (m - n)) (2 ^ 64 - 1) ≤ later
  purging_count =
      let len : length left ≡ length first + length done.failed = ap length done.is ∙ length-append first done.failed in
      let h = done.count in
      omega (arith, h, len, is_n, is_m)

  pub purging_later : faults ≤ later
  purging_later = done.later_is

-- there is room for one number more
pub purging_room : (first : List ℕ) (faults : ℕ) (told : Option Tree) (i : ℕ) (cs : List Change) (left : List ℕ) (later : ℕ) (now : Option Tree) (n m room cap : ℕ)
    → n ≡ length first → m ≡ length left → Purging first faults told i cs left later now → i < length cs → n + length cs ≤ cap → room ≡ cap → m < room
purging_room first faults told i cs left later now n m room cap is_n is_m done below fits same =
    let len : length left ≡ length first + length done.failed = ap length done.is ∙ length-append first done.failed in
    let few = done.few in
    omega (arith, len, few, is_n, is_m, below, fits, same)
