-- What a block changes in the set, by the dists that it names.
use Rattle.std.proofs.Common.{◌≡◌, ◌⊎◌, inl, inr, ℕ, ◌+◌, ◌<◌, Bool, true, false, ◌||◌, not, cond, List, [], ◌∷◌, ◌++◌, length, drop, get_or, refl, sym, ap, ◌∙◌, subst}
use Rattle.std.specs.Prelude.{filter}
use Rattle.std.specs.List.{AllByRecursion, list_any}
use Rattle.std.specs.declared.cmp.Ordering.{Ordering}
use Rattle.std.specs.BTreeMap.{is_at}
use Rattle.std.specs.Cmp.Lexicographic.{bytes_decides, texts_ties}
use Rattle.std.specs.List.Sorted.{IsStrictlySortedBy}
use Rattle.std.proofs.lemmas.Bool.{true≢false}
use Rattle.std.proofs.lemmas.List.{drop_more}
use Rattle.conda_base.specs.Texts.{Ascending, is_text}
use Rattle.conda_history.specs.declared.revision.Block.{Block}
use Rattle.conda_history.specs.Sets.{IsIn, change_of, chosen, holds, is_chosen, kept_by, leaving, missing_from, push_if, put_if, set_with, staying, with_all}
use Rattle.conda_history.proofs.SetLemmas.{C, Sorted, ascend_sorted, decided, empty_sorted, in_kept, in_with, kept_in, same_members, sorted_ascend, sorted_step, sorted_with, with_in}

-- ---- a test of members

pub holds_is : (d : List ℕ) (xs : List (List ℕ)) → list_any (is_at (C d)) xs ≡ holds xs d
holds_is d [] = refl
holds_is d (x ∷ xs) =
    ap (λ v. v || list_any (is_at (C d)) xs) (sym (texts_ties d x)) ∙ ap (λ v. is_text d x || v) (holds_is d xs)

or_cases : (v w : Bool) → v || w ≡ true → (v ≡ true) ⊎ (w ≡ true)
or_cases true w e = inl refl
or_cases false w e = inr e

or_true : (v : Bool) → v || true ≡ true
or_true true = refl
or_true false = refl

held_in : (d : List ℕ) (xs : List (List ℕ)) → holds xs d ≡ true → IsIn d xs
held_in d [] h = absurd (true≢false (sym h))
held_in d (x ∷ xs) h = by (or_cases (is_text d x) (holds xs d) h) (held_in d xs)
  where
    by : (is_text d x ≡ true) ⊎ (holds xs d ≡ true) → (holds xs d ≡ true → IsIn d xs) → (d ≡ x) ⊎ IsIn d xs
    by (inl e) f = inl ((bytes_decides d x).0 e)
    by (inr e) f = inr (f e)

in_held : (d : List ℕ) (xs : List (List ℕ)) → IsIn d xs → holds xs d ≡ true
in_held d [] i = absurd i
in_held d (x ∷ xs) (inl e) = ap (λ v. v || holds xs d) ((bytes_decides d x).1 e)
in_held d (x ∷ xs) (inr i) = ap (λ v. is_text d x || v) (in_held d xs i) ∙ or_true (is_text d x)

not_held : (d : List ℕ) (xs : List (List ℕ)) → not (holds xs d) ≡ true → IsIn d xs → ⊥
not_held d xs h i = true≢false (sym (sym (ap not (in_held d xs i)) ∙ h))

unheld : (d : List ℕ) (xs : List (List ℕ)) → (IsIn d xs → ⊥) → not (holds xs d) ≡ true
unheld d xs n = by (holds xs d) refl
  where
    by : (v : Bool) → holds xs d ≡ v → not v ≡ true
    by true e = absurd (n (held_in d xs e))
    by false e = refl

-- ---- filters of texts

in_filter : (p : List ℕ → Bool) (d : List ℕ) (xs : List (List ℕ)) → IsIn d (filter p xs) → IsIn d xs × (p d ≡ true)
in_filter p d [] i = absurd i
in_filter p d (x ∷ xs) i = by (p x) refl i (in_filter p d xs)
  where
    here : p x ≡ true → (d ≡ x) ⊎ IsIn d (filter p xs) → (IsIn d (filter p xs) → IsIn d xs × (p d ≡ true)) → ((d ≡ x) ⊎ IsIn d xs) × (p d ≡ true)
    here e (inl q) f = (inl q, ap p q ∙ e)
    here e (inr j) f = let r = f j in (inr r.0, r.1)

    by : (v : Bool) → p x ≡ v → IsIn d (cond v (x ∷ filter p xs) (filter p xs)) → (IsIn d (filter p xs) → IsIn d xs × (p d ≡ true)) → ((d ≡ x) ⊎ IsIn d xs) × (p d ≡ true)
    by true e j f = here e j f
    by false e j f = let r = f j in (inr r.0, r.1)

filter_in : (p : List ℕ → Bool) (d : List ℕ) (xs : List (List ℕ)) → IsIn d xs → p d ≡ true → IsIn d (filter p xs)
filter_in p d [] i e = absurd i
filter_in p d (x ∷ xs) i e = by (p x) refl i (λ j. filter_in p d xs j e)
  where
    here : (d ≡ x) ⊎ IsIn d xs → (IsIn d xs → IsIn d (filter p xs)) → (d ≡ x) ⊎ IsIn d (filter p xs)
    here (inl q) f = inl q
    here (inr j) f = inr (f j)

    by : (v : Bool) → p x ≡ v → (d ≡ x) ⊎ IsIn d xs → (IsIn d xs → IsIn d (filter p xs)) → IsIn d (cond v (x ∷ filter p xs) (filter p xs))
    by true g j f = here j f
    by false g (inl q) f = absurd (true≢false (sym e ∙ ap p q ∙ g))
    by false g (inr j) f = f j

all_filter : (p : List ℕ → Bool) (P : List ℕ → Type 0) (xs : List (List ℕ)) → AllByRecursion P xs → AllByRecursion P (filter p xs)
all_filter p P [] h = tt
all_filter p P (x ∷ xs) h = by (p x) (all_filter p P xs h.1)
  where
    by : (v : Bool) → AllByRecursion P (filter p xs) → AllByRecursion P (cond v (x ∷ filter p xs) (filter p xs))
    by true r = (h.0, r)
    by false r = r

sorted_filter : (p : List ℕ → Bool) (xs : List (List ℕ)) → Sorted xs → Sorted (filter p xs)
unfolding IsStrictlySortedBy
sorted_filter p [] s = tt
sorted_filter p (x ∷ xs) s = by (p x) (sorted_filter p xs s.1)
  where
    by : (v : Bool) → Sorted (filter p xs) → Sorted (cond v (x ∷ filter p xs) (filter p xs))
    by true r = (all_filter p (λ y. C x y ≡ Ordering.Less) xs s.0, r)
    by false r = r

-- ---- loops

pub chosen_more : (held : Bool) (set dists : List (List ℕ)) (i : ℕ) (d : List ℕ) (made now : List (List ℕ)) (wanted : Bool)
    → d ≡ get_or dists i d → i < length dists → wanted ≡ is_chosen held (holds set d) → now ≡ put_if wanted d made
    → with_all now (chosen held set (drop (i + 1) dists)) ≡ with_all made (chosen held set (drop i dists))
chosen_more held set dists i d made now wanted is short w e =
    let rest = drop (i + 1) dists in
    let tail : drop i dists ≡ d ∷ rest = drop_more dists i d short ∙ ap (λ x. x ∷ rest) (sym is) in
    ap (λ s. with_all s (chosen held set rest)) e
    ∙ by wanted
    ∙ ap (λ v. with_all made (cond v (d ∷ chosen held set rest) (chosen held set rest))) w
    ∙ ap (λ xs. with_all made (chosen held set xs)) (sym tail)
  where
    by : (v : Bool) → with_all (put_if v d made) (chosen held set (drop (i + 1) dists)) ≡ with_all made (cond v (d ∷ chosen held set (drop (i + 1) dists)) (chosen held set (drop (i + 1) dists)))
    by true = refl
    by false = refl

pub filter_more : (p : List ℕ → Bool) (xs : List (List ℕ)) (d : List ℕ) → push_if (p d) d (filter p xs) ≡ filter p (xs ++ d ∷ [])
filter_more p [] d = by (p d)
  where
    by : (v : Bool) → push_if v d [] ≡ cond v (d ∷ []) []
    by true = refl
    by false = refl
filter_more p (x ∷ xs) d = by (p x) (p d) (filter_more p xs d)
  where
    by : (v w : Bool) → push_if w d (filter p xs) ≡ filter p (xs ++ d ∷ []) → push_if w d (cond v (x ∷ filter p xs) (filter p xs)) ≡ cond v (x ∷ filter p (xs ++ d ∷ [])) (filter p (xs ++ d ∷ []))
    by true true e = ap (λ ys. x ∷ ys) e
    by true false e = ap (λ ys. x ∷ ys) e
    by false w e = e

pub missing_more : (set ys : List (List ℕ)) (d : List ℕ) (rows now : List (List ℕ)) (b : Bool) → now ≡ push_if (not b) d rows
    → rows ≡ missing_from set ys → b ≡ holds set d → now ≡ missing_from set (ys ++ d ∷ [])
missing_more set ys d rows now b e f g =
    e ∙ ap (push_if (not b) d) f ∙ ap (λ v. push_if (not v) d (missing_from set ys)) g ∙ filter_more (λ x. not (holds set x)) ys d

-- ---- one block

pub staying_with : (set : List (List ℕ)) (b : Block) → set_with (staying set b) b ≡ set_with set b
staying_with set b = by b.whole refl
  where
    by : (v : Bool) → b.whole ≡ v → set_with (staying set b) b ≡ set_with set b
    by true e = rw e refl
    by false e = ap (λ v. set_with (cond v [] set) b) e

pub step_ascends : (set : List (List ℕ)) (b : Block) → Ascending set → Ascending (set_with set b)
step_ascends set b s = ascend_sorted (set_with set b) (sorted_step b set (sorted_ascend set s))

-- what joins is what is in the set after the block and wasn't before
pub joins : (set : List (List ℕ)) (b : Block) → Ascending set → with_all [] (chosen false set b.added) ≡ missing_from set (set_with set b)
joins set b a =
    let s = sorted_ascend set a in
    same_members (with_all [] (chosen false set b.added)) (missing_from set (set_with set b))
    (sorted_with (chosen false set b.added) [] empty_sorted)
    (sorted_filter (λ d. not (holds set d)) (set_with set b) (sorted_step b set s))
    (λ d i. forth d (in_with d (chosen false set b.added) [] i))
    (λ d i. let r = in_filter (λ x. not (holds set x)) d (set_with set b) i in back s d r.1 (in_with d b.added (kept_by b set) r.0))
  where
    forth : (d : List ℕ) → IsIn d (chosen false set b.added) ⊎ IsIn d [] → IsIn d (missing_from set (set_with set b))
    forth d (inl i) =
        let r = in_filter (λ x. is_chosen false (holds set x)) d b.added i in
        filter_in (λ x. not (holds set x)) d (set_with set b) (with_in d b.added (kept_by b set) (inl r.0)) r.1
    forth d (inr i) = absurd i

    back : Sorted set → (d : List ℕ) → not (holds set d) ≡ true → IsIn d b.added ⊎ IsIn d (kept_by b set) → IsIn d (with_all [] (chosen false set b.added))
    back s d n (inl i) = with_in d (chosen false set b.added) [] (inl (filter_in (λ x. is_chosen false (holds set x)) d b.added i n))
    back s d n (inr i) = absurd (not_held d set n (in_kept d b set s i).0)

sorted_leaving : (set : List (List ℕ)) (b : Block) → Sorted set → Sorted (leaving set b)
sorted_leaving set b s = by b.whole
  where
    by : (v : Bool) → Sorted (cond v set (with_all [] (chosen true set b.removed)))
    by true = s
    by false = sorted_with (chosen true set b.removed) [] empty_sorted

in_leaving : (d : List ℕ) (set : List (List ℕ)) (b : Block) → IsIn d (leaving set b) → IsIn d set
in_leaving d set b = by b.whole
  where
    out : IsIn d (chosen true set b.removed) ⊎ IsIn d [] → IsIn d set
    out (inl i) = let r = in_filter (λ x. is_chosen true (holds set x)) d b.removed i in held_in d set r.1
    out (inr i) = absurd i

    by : (v : Bool) → IsIn d (cond v set (with_all [] (chosen true set b.removed))) → IsIn d set
    by true i = i
    by false i = out (in_with d (chosen true set b.removed) [] i)

leaving_in : (d : List ℕ) (set : List (List ℕ)) (b : Block) → IsIn d set → (IsIn d (kept_by b set) → ⊥) → IsIn d (leaving set b)
leaving_in d set b i n = by b.whole refl (decided d b.removed)
  where
    by : (v : Bool) → b.whole ≡ v → IsIn d b.removed ⊎ (IsIn d b.removed → ⊥) → IsIn d (cond v set (with_all [] (chosen true set b.removed)))
    by true e r = i
    by false e (inl r) =
        with_in d (chosen true set b.removed) [] (inl (filter_in (λ x. is_chosen true (holds set x)) d b.removed r (in_held d set i)))
    by false e (inr r) = absurd (n (kept_in d b set i e r))

-- what leaves is what was in the set before the block and isn't after it
pub leaves : (set : List (List ℕ)) (b : Block) → Ascending set → missing_from (set_with set b) (leaving set b) ≡ missing_from (set_with set b) set
leaves set b a =
    let s = sorted_ascend set a in
    let p : List ℕ → Bool = λ d. not (holds (set_with set b) d) in
    same_members (filter p (leaving set b)) (filter p set)
    (sorted_filter p (leaving set b) (sorted_leaving set b s)) (sorted_filter p set s)
    (λ d i. let r = in_filter p d (leaving set b) i in filter_in p d set (in_leaving d set b r.0) r.1)
    (λ d i. let r = in_filter p d set i in
    filter_in p d (leaving set b) (leaving_in d set b r.0 (λ k. not_held d (set_with set b) r.1 (with_in d b.added (kept_by b set) (inr k)))) r.1)

pub step_is : (set set1 set2 : List (List ℕ)) (b : Block) → set1 ≡ staying set b → set2 ≡ set_with set1 b → set2 ≡ set_with set b
step_is set set1 set2 b e f = f ∙ ap (λ s. set_with s b) e ∙ staying_with set b

pub stays_ascending : (set now : List (List ℕ)) (b : Block) → Ascending set → now ≡ set_with set b → Ascending now
stays_ascending set now b a e = subst Ascending (sym e) (step_ascends set b a)

-- what a block changes, by what leaves and what joins
pub changed_as : (set set1 set2 left removed joining added named : List (List ℕ)) (b : Block) → Ascending set
    → set1 ≡ staying set b → set2 ≡ set_with set1 b → left ≡ leaving set b → removed ≡ missing_from set2 left
    → named ≡ b.added → joining ≡ with_all [] (chosen false set named) → added ≡ joining
    → (let made : Block = record { stamp = b.stamp; removed = removed; added = added; whole = false } in made) ≡ change_of b.stamp set (set_with set b)
changed_as set set1 set2 left removed joining added named b a e f g h k j m =
    let went : removed ≡ missing_from (set_with set b) set =
    h ∙ ap (λ s. missing_from s left) (step_is set set1 set2 b e f) ∙ ap (missing_from (set_with set b)) g ∙ leaves set b a in
    let came : added ≡ missing_from set (set_with set b) =
    m ∙ j ∙ ap (λ ds. with_all [] (chosen false set ds)) k ∙ joins set b a in
    λ i. record { stamp = b.stamp; removed = went i; added = came i; whole = false }
