-- The characters that stay are those that the places of the text say.
use Rattle.std.proofs.Common.{◌≡◌, ◌≢◌, ◌⊎◌, inl, inr, ℕ, zero, suc, ◌+◌, ◌-◌, ◌<◌, ◌≤◌, Bool, true, false, not, List, [], ◌∷◌, ◌++◌, length, map, Option, None, Some, refl, sym, ap, subst, ◌∙◌, arith, append_assoc, cond, length-append, true≢false}
use Rattle.std.proofs.lemmas.Bool.Decides.{nat_tests}
use Rattle.std.proofs.lemmas.List.Folds.{list_all-append}
use Rattle.std.specs.Prelude.{if◌then◌else◌, ◌==◌, ◌&&◌, ◌||◌, codes, Contains, slice_get, slice_index}
use Rattle.std.specs.List.{AllByRecursion, list_all, onto_first, slice_split}
use Rattle.std.specs.List.Sorted.{IsStrictlyIncreasing}
use Rattle.std.specs.Option.{option_or}
use Rattle.conda_base.specs.Texts.{is_byte}
use Rattle.conda_clause.specs.Kept.{chars_at, drops_behind, has_gap, is_joint, kept, kept_chars, kept_runs, last_of, places}
use Rattle.conda_clause.specs.Spaces.{IsGap, IsKept, IsSolid, is_one_of}
use Rattle.conda_clause.proofs.KeptLemmas.{is_space}
use Rattle.conda_clause.proofs.TestLemmas.{and_both, and_left, and_right, test_equal}

-- ---- the characters that stay, a character at a time

-- a space stays between what ends so and what begins so
abbrev parts : Option ℕ → List ℕ → Bool
parts last [] = false
parts last (c ∷ cs) = not (c == 32) && has_gap last c

-- what stays from a place on, behind this last character that is no space
abbrev walk : Option ℕ → ℕ → List ℕ → List (ℕ × ℕ)
walk last at [] = []
walk last at (b ∷ bs) =
    if b == 32 then (if parts last bs then (at, 32) ∷ walk last (at + 1) bs else walk last (at + 1) bs)
    else (at, b) ∷ walk (Some b) (at + 1) bs

-- what stays from within a run on
abbrev from_run : Option ℕ → ℕ → List (List ℕ) → List (ℕ × ℕ)
from_run last at [] = []
from_run last at (run ∷ runs) = chars_at at run ++ kept_runs (last_of last run) (at + length run + 1) runs

abbrev split : List ℕ → List (List ℕ)
split text = slice_split is_space text

some_last : (c : ℕ) (cs : List ℕ) → (x : ℕ) × (slice_get (c ∷ cs) (length cs) ≡ Some x)
some_last c [] = (c, refl)
some_last c (d ∷ ds) = some_last d ds

last_in : (last : Option ℕ) (b : ℕ) (run : List ℕ) → last_of last (b ∷ run) ≡ last_of (Some b) run
last_in last b [] = refl
last_in last b (c ∷ cs) =
    let some = some_last c cs in
    let far : length (b ∷ c ∷ cs) - 1 ≡ suc (length cs) = omega arith in
    let near : length (c ∷ cs) - 1 ≡ length cs = omega arith in
    ap (λ n. option_or (slice_get (b ∷ c ∷ cs) n) last) far ∙ ap (λ o. option_or o last) some.1
    ∙ sym (ap (λ n. option_or (slice_get (c ∷ cs) n) (Some b)) near ∙ ap (λ o. option_or o (Some b)) some.1)

-- behind a space
gap_run : (last : Option ℕ) (at : ℕ) (bs : List ℕ)
    → (if parts last bs then (at, 32) ∷ from_run last (at + 1) (split bs) else from_run last (at + 1) (split bs))
    ≡ kept_runs last (at + 1) (split bs)
gap_run last at [] = refl
gap_run last at (c ∷ cs) = by_space (c == 32) (split cs)
  where
    back : at + 1 - 1 ≡ at
    back = omega arith

    by_gap : (k : Bool) (run more : List (ℕ × ℕ))
        → (if k then (at, 32) ∷ (run ++ more) else run ++ more) ≡ (if k then (at + 1 - 1, 32) ∷ run else run) ++ more
    by_gap true run more = ap (λ n. (n, 32) ∷ (run ++ more)) (sym back)
    by_gap false run more = refl

    by_space : (k : Bool) (s : List (List ℕ))
        → (if not k && has_gap last c then (at, 32) ∷ from_run last (at + 1) (cond k ([] ∷ s) (onto_first c s))
        else from_run last (at + 1) (cond k ([] ∷ s) (onto_first c s)))
        ≡ kept_runs last (at + 1) (cond k ([] ∷ s) (onto_first c s))
    by_space true s = refl
    by_space false [] =
        by_gap (has_gap last c) (chars_at (at + 1) (c ∷ [])) (kept_runs (last_of last (c ∷ [])) (at + 1 + length (c ∷ []) + 1) [])
    by_space false (run ∷ runs) =
        by_gap (has_gap last c) (chars_at (at + 1) (c ∷ run)) (kept_runs (last_of last (c ∷ run)) (at + 1 + length (c ∷ run) + 1) runs)

-- in a run
onto_run : (last : Option ℕ) (at b : ℕ) (s : List (List ℕ)) → (at, b) ∷ from_run (Some b) (at + 1) s ≡ from_run last at (onto_first b s)
onto_run last at b [] = refl
onto_run last at b (run ∷ runs) =
    let far : at + 1 + length run + 1 ≡ at + length (b ∷ run) + 1 = omega arith in
    ap (λ l. (at, b) ∷ (chars_at (at + 1) run ++ kept_runs l (at + 1 + length run + 1) runs)) (sym (last_in last b run))
    ∙ ap (λ n. (at, b) ∷ (chars_at (at + 1) run ++ kept_runs (last_of last (b ∷ run)) n runs)) far

walk_run : (last : Option ℕ) (at : ℕ) (text : List ℕ) → walk last at text ≡ from_run last at (split text)
walk_run last at [] = refl
walk_run last at (b ∷ bs) = by_space (b == 32) (walk_run last (at + 1) bs) (walk_run (Some b) (at + 1) bs)
  where
    none : at + 1 ≡ at + 0 + 1
    none = omega arith

    by_space : (k : Bool) → walk last (at + 1) bs ≡ from_run last (at + 1) (split bs)
        → walk (Some b) (at + 1) bs ≡ from_run (Some b) (at + 1) (split bs)
        → (if k then (if parts last bs then (at, 32) ∷ walk last (at + 1) bs else walk last (at + 1) bs) else (at, b) ∷ walk (Some b)
        (at + 1) bs)
        ≡ from_run last at (cond k ([] ∷ split bs) (onto_first b (split bs)))
    by_space true same next =
        ap (λ w. if parts last bs then (at, 32) ∷ w else w) same ∙ gap_run last at bs ∙ ap (λ n. kept_runs last n (split bs)) none
    by_space false same next = ap (λ w. (at, b) ∷ w) next ∙ onto_run last at b (split bs)

kept_walk : (text : List ℕ) → kept_chars text ≡ walk None 0 text
kept_walk text = sym (walk_run None 0 text ∙ begin (split text))
  where
    begin : (s : List (List ℕ)) → from_run None 0 s ≡ kept_runs None 0 s
    begin [] = refl
    begin ([] ∷ runs) = refl
    begin ((b ∷ bs) ∷ runs) = refl

-- ---- ascending places

-- numbers ascend, and none is below this one
abbrev Above : ℕ → List ℕ → Type 0
Above n [] = Unit {0}
Above n (x ∷ xs) = (n ≤ x) × Above (x + 1) xs

above_less : (m n : ℕ) (xs : List ℕ) → m ≤ n → Above n xs → Above m xs
above_less m n [] h k = tt
above_less m n (x ∷ xs) h k = let first : n ≤ x = k.0 in (omega arith, k.1)

abbrev place : ℕ × ℕ → ℕ
place m = m.0

walk_above : (last : Option ℕ) (at : ℕ) (text : List ℕ) → Above at (map place (walk last at text))
walk_above last at [] = tt
walk_above last at (b ∷ bs) = by_space (b == 32) (parts last bs) (walk_above last (at + 1) bs) (walk_above (Some b) (at + 1) bs)
  where
    by_space : (k p : Bool) → Above (at + 1) (map place (walk last (at + 1) bs)) → Above (at + 1) (map place (walk (Some b) (at + 1) bs))
        → Above at (map place
        (if k then (if p then (at, 32) ∷ walk last (at + 1) bs else walk last (at + 1) bs) else (at, b) ∷ walk (Some b) (at + 1) bs))
    by_space true true same next = (omega arith, same)
    by_space true false same next = above_less at (at + 1) (map place (walk last (at + 1) bs)) (omega arith) same
    by_space false p same next = (omega arith, next)

above_increasing : (n : ℕ) (xs : List ℕ) → Above n xs → IsStrictlyIncreasing xs
above_increasing n [] h k l = absurd (omega arith)
above_increasing n (x ∷ []) h k l = absurd (omega arith)
above_increasing n (x ∷ y ∷ ys) h zero l = let next : x + 1 ≤ y = h.1.0 in omega arith
above_increasing n (x ∷ y ∷ ys) h (suc k) l =
    let e : suc k + 1 ≡ suc (k + 1) = omega arith in
    subst (λ j. slice_index (y ∷ ys) k < slice_index (x ∷ y ∷ ys) j) (sym e) (above_increasing (x + 1) (y ∷ ys) h.1 k (omega arith))

increasing_above : (n : ℕ) (xs : List ℕ) → (0 < length xs → n ≤ slice_index xs 0) → IsStrictlyIncreasing xs → Above n xs
increasing_above n [] f h = tt
increasing_above n (x ∷ xs) f h = (
  f (omega arith),
  increasing_above (x + 1) xs (λ l. let next : x < slice_index xs 0 = h 0 (omega arith) in omega arith) (λ k l.
      let e : suc k + 1 ≡ suc (k + 1) = omega arith in
      subst (λ j. slice_index xs k < slice_index (x ∷ xs) j) e (h (suc k) (omega arith))),
)

-- ---- members

abbrev Has : ℕ → List ℕ → Type 0
Has i [] = ⊥
Has i (x ∷ xs) = (i ≡ x) ⊎ Has i xs

contains_has : (xs : List ℕ) (i : ℕ) → Contains xs i → Has i xs
contains_has [] i (k, l, e) = absurd (omega arith)
contains_has (x ∷ xs) i (zero, l, e) = inl (sym e)
contains_has (x ∷ xs) i (suc k, l, e) = inr (contains_has xs i (k, omega arith, e))

has_contains : (xs : List ℕ) (i : ℕ) → Has i xs → Contains xs i
has_contains [] i h = absurd h
has_contains (x ∷ xs) i (inl e) = (0, omega arith, sym e)
has_contains (x ∷ xs) i (inr h) = let more = has_contains xs i h in let l : more.0 < length xs = more.1 in (suc more.0, omega arith, more.2)

has_above : (n i : ℕ) (xs : List ℕ) → Above n xs → Has i xs → n ≤ i
has_above n i [] h k = absurd k
has_above n i (x ∷ xs) h (inl e) = let first : n ≤ x = h.0 in omega arith
has_above n i (x ∷ xs) h (inr k) = let first : n ≤ x = h.0 in let more : x + 1 ≤ i = has_above (x + 1) i xs h.1 k in omega arith

-- ascending numbers with the same members are the same
same_members : (m n : ℕ) (xs ys : List ℕ) → Above m xs → Above n ys → ((i : ℕ) → Has i xs → Has i ys) → ((i : ℕ) → Has i ys → Has i xs)
    → xs ≡ ys
same_members m n [] [] h k f g = refl
same_members m n [] (y ∷ ys) h k f g = absurd (g y (inl refl))
same_members m n (x ∷ xs) [] h k f g = absurd (f x (inl refl))
same_members m n (x ∷ xs) (y ∷ ys) h k f g =
    ap (λ z. z ∷ xs) first
    ∙ ap (λ zs. y ∷ zs) (same_members (x + 1) (y + 1) xs ys h.1 k.1 (λ i l. onward i l (f i (inr l))) (λ i l. backward i l (g i (inr l))))
  where
    first_above : (a : ℕ) (more : List ℕ) (i : ℕ) → Above (a + 1) more → Has i (a ∷ more) → a ≤ i
    first_above a more i l (inl e) = omega arith
    first_above a more i l (inr q) = let high : a + 1 ≤ i = has_above (a + 1) i more l q in omega arith

    first : x ≡ y
    first =
        let low : y ≤ x = first_above y ys x k.1 (f x (inl refl)) in
        let high : x ≤ y = first_above x xs y h.1 (g y (inl refl)) in
        omega arith

    onward : (i : ℕ) → Has i xs → Has i (y ∷ ys) → Has i ys
    onward i l (inr q) = q
    onward i l (inl e) = let more : x + 1 ≤ i = has_above (x + 1) i xs h.1 l in let same : x ≡ y = first in absurd (omega arith)

    backward : (i : ℕ) → Has i ys → Has i (x ∷ xs) → Has i xs
    backward i l (inr q) = q
    backward i l (inl e) = let more : y + 1 ≤ i = has_above (y + 1) i ys k.1 l in let same : x ≡ y = first in absurd (omega arith)

-- ---- what stays has its place

-- this was the last character that is no space
abbrev Behind : List ℕ → Option ℕ → Type 0
Behind front None = Unit {0}
Behind front (Some last) =
    (begin : List ℕ) × (spaces : List ℕ) × (front ≡ begin ++ last ∷ spaces) × (list_all (is_byte 32) spaces ≡ true) × (last ≢ 32)

behind_space : (front : List ℕ) (last : Option ℕ) (b : ℕ) → b ≡ 32 → Behind front last → Behind (front ++ b ∷ []) last
behind_space front None b e h = tt
behind_space front (Some last) b e h = (
  h.0,
  h.1 ++ b ∷ [],
  ap (λ t. t ++ b ∷ []) h.2 ∙ append_assoc h.0 (last ∷ h.1) (b ∷ []),
  list_all-append (is_byte 32) h.1 (b ∷ [])
      ∙ and_both (list_all (is_byte 32) h.1) (list_all (is_byte 32) (b ∷ [])) h.3 (ap (λ c. c == 32 && true) e),
  h.4,
)

neither : (a b : Bool) → not (a || b) ≡ true → (a ≡ false) × (b ≡ false)
neither true b h = absurd (true≢false (sym h))
neither false true h = absurd (true≢false (sym h))
neither false false h = (refl, refl)

not_true : (k : Bool) → not k ≡ true → k ≡ false
not_true true h = absurd (true≢false (sym h))
not_true false h = refl

keeps_behind : (b : ℕ) → b ≢ 32 → drops_behind b ≡ false → is_one_of (codes " ,|<>=") b ≡ false
keeps_behind b h k = grind (arith, nat_tests)

keeps_before : (b : ℕ) → (b == 32) ≡ false → is_joint b ≡ false → is_one_of (codes " ,|") b ≡ false
keeps_before b h k = grind (arith, nat_tests)

gap_of : (whole front : List ℕ) (last : Option ℕ) (at b : ℕ) (bs : List ℕ) → whole ≡ front ++ b ∷ bs → at ≡ length front → b ≡ 32
    → Behind front last
    → parts last bs ≡ true → IsGap whole at
gap_of whole front last at b [] is_whole is_at is_space h p = absurd (true≢false (sym p))
gap_of whole front None at b (c ∷ cs) is_whole is_at is_space h p = absurd (true≢false (sym (and_right (not (c == 32)) false p)))
gap_of whole front (Some last) at b (c ∷ cs) is_whole is_at is_space h p =
    let stay = neither (drops_behind last) (is_joint c) (and_right (not (c == 32)) (has_gap (Some last) c) p) in
    let far : length front ≡ length h.0 + length (last ∷ h.1) = ap length h.2 ∙ length-append h.0 (last ∷ h.1) in
    record {
      front = h.0;
      before = last;
      spaces = h.1;
      behind = c;
      back = cs;
      whole = is_whole ∙ ap (λ t. t ++ b ∷ c ∷ cs) h.2 ∙ append_assoc h.0 (last ∷ h.1) (b ∷ c ∷ cs)
          ∙ ap (λ s. h.0 ++ last ∷ (h.1 ++ s ∷ c ∷ cs)) is_space;
      place = omega arith;
      between = h.3;
      stays_behind = keeps_behind last h.4 stay.0;
      stays_before = keeps_before c (not_true (c == 32) (and_left (not (c == 32)) (has_gap (Some last) c) p)) stay.1;
    }

get_at : (front : List ℕ) (b : ℕ) (bs : List ℕ) → slice_get (front ++ b ∷ bs) (length front) ≡ Some b
get_at [] b bs = refl
get_at (f ∷ fs) b bs = get_at fs b bs

-- it stood there, and stays
record IsPlaced (whole : List ℕ) (m : ℕ × ℕ) : Type 0 where
  stood : slice_get whole m.0 ≡ Some m.1
  stays : IsSolid whole m.0 ⊎ IsGap whole m.0

unlike_space : (b : ℕ) → (b == 32) ≡ false → b ≢ 32
unlike_space b h e = true≢false (sym (ap (λ c. c == 32) e) ∙ h)

walk_placed : (whole front : List ℕ) (last : Option ℕ) (at : ℕ) (text : List ℕ) → whole ≡ front ++ text → at ≡ length front
    → Behind front last
    → AllByRecursion (IsPlaced whole) (walk last at text)
walk_placed whole front last at [] is_whole is_at h = tt
walk_placed whole front last at (b ∷ bs) is_whole is_at h =
    by_space (b == 32) refl (parts last bs) refl (λ l behind.
    walk_placed whole (front ++ b ∷ []) l (at + 1) bs (is_whole ∙ sym (append_assoc front (b ∷ []) bs))
    (omega (arith, length-append front (b ∷ []))) behind)
  where
    stands : slice_get whole at ≡ Some b
    stands = ap (slice_get whole) is_at ∙ ap (λ t. slice_get t (length front)) is_whole ∙ get_at front b bs

    by_space : (k : Bool) → (b == 32) ≡ k → (p : Bool) → parts last bs ≡ p
        → ((l : Option ℕ) → Behind (front ++ b ∷ []) l → AllByRecursion (IsPlaced whole) (walk l (at + 1) bs))
        → AllByRecursion (IsPlaced whole)
        (if k then (if p then (at, 32) ∷ walk last (at + 1) bs else walk last (at + 1) bs) else (at, b) ∷ walk (Some b) (at + 1) bs)
    by_space true e true g rest =
        let space = test_equal b 32 e in (
          record { stood = stands ∙ ap Some space; stays = inr (gap_of whole front last at b bs is_whole is_at space h g) },
          rest last
              (behind_space front last b space h),
        )
    by_space true e false g rest = rest last (behind_space front last b (test_equal b 32 e) h)
    by_space false e p g rest =
        let solid =
        unlike_space b e in (record { stood = stands; stays = inl (b, stands, solid) }, rest (Some b) (front, [], refl, refl, solid))

placed_chars : (whole : List ℕ) (ms : List (ℕ × ℕ)) → AllByRecursion (IsPlaced whole) ms
    → map Some (map (λ m. m.1) ms) ≡ map (slice_get whole) (map place ms)
placed_chars whole [] h = refl
placed_chars whole (m ∷ ms) h =
    ap (λ o. o ∷ map Some (map (λ m. m.1) ms)) (sym h.0.stood) ∙ ap (λ os. slice_get whole m.0 ∷ os) (placed_chars whole ms h.1)

placed_stays : (whole : List ℕ) (ms : List (ℕ × ℕ)) (i : ℕ) → AllByRecursion (IsPlaced whole) ms → Has i (map place ms)
    → IsSolid whole i ⊎ IsGap whole i
placed_stays whole [] i h k = absurd k
placed_stays whole (m ∷ ms) i h (inl e) = subst (λ j. IsSolid whole j ⊎ IsGap whole j) (sym e) h.0.stays
placed_stays whole (m ∷ ms) i h (inr k) = placed_stays whole ms i h.1 k

-- ---- what has its place stays

behind_in : (i : ℕ) (last : Option ℕ) (at b : ℕ) (bs : List ℕ) → ((l : Option ℕ) → Has i (map place (walk l (at + 1) bs)))
    → Has i (map place (walk last at (b ∷ bs)))
behind_in i last at b bs f = by_space (b == 32) (parts last bs)
  where
    by_space : (k p : Bool)
        → Has i (map place (if k then (if p then (at, 32) ∷ walk last (at + 1) bs else walk last (at + 1) bs) else (at, b) ∷ walk (Some b)
        (at + 1) bs))
    by_space true true = inr (f last)
    by_space true false = f last
    by_space false p = inr (f (Some b))

solid_in : (last : Option ℕ) (at : ℕ) (text : List ℕ) (k b : ℕ) → slice_get text k ≡ Some b → b ≢ 32
    → Has (at + k) (map place (walk last at text))
solid_in last at [] k b h n = cc
solid_in last at (c ∷ cs) zero b h n = by_space (c == 32) refl
  where
    same : c ≡ b
    same = cc

    here : at + 0 ≡ at
    here = omega arith

    by_space : (k : Bool) → (c == 32) ≡ k
        → Has (at + 0) (map place
        (if k then (if parts last cs then (at, 32) ∷ walk last (at + 1) cs else walk last (at + 1) cs) else (at, c) ∷ walk (Some c)
        (at + 1) cs))
    by_space true e = absurd (n (sym same ∙ test_equal c 32 e))
    by_space false e = inl here
solid_in last at (c ∷ cs) (suc k) b h n =
    let e : at + 1 + k ≡ at + suc k = omega arith in
    behind_in (at + suc k) last at c cs (λ l. subst (λ i. Has i (map place (walk l (at + 1) cs))) e (solid_in l (at + 1) cs k b h n))

-- behind a character that is no space
solid_step : (i : ℕ) (last : Option ℕ) (at b : ℕ) (bs : List ℕ) → (b == 32) ≡ false → Has i (map place (walk (Some b) (at + 1) bs))
    → Has i (map place (walk last at (b ∷ bs)))
solid_step i last at b bs e h =
    subst (λ k. Has i (map place
    (if k then (if parts last bs then (at, 32) ∷ walk last (at + 1) bs else walk last (at + 1) bs) else (at, b) ∷ walk (Some b)
    (at + 1) bs)))
    (sym e) (inr h)

-- behind a space
space_step : (i : ℕ) (last : Option ℕ) (at b : ℕ) (bs : List ℕ) → (b == 32) ≡ true → Has i (map place (walk last (at + 1) bs))
    → Has i (map place (walk last at (b ∷ bs)))
space_step i last at b bs e h =
    subst (λ k. Has i (map place
    (if k then (if parts last bs then (at, 32) ∷ walk last (at + 1) bs else walk last (at + 1) bs) else (at, b) ∷ walk (Some b)
    (at + 1) bs)))
    (sym e) (by_gap (parts last bs))
  where
    by_gap : (p : Bool) → Has i (map place (if p then (at, 32) ∷ walk last (at + 1) bs else walk last (at + 1) bs))
    by_gap true = inr h
    by_gap false = h

drops_none : (b : ℕ) → is_one_of (codes " ,|<>=") b ≡ false → drops_behind b ≡ false
drops_none b h = grind (arith, nat_tests)

joins_none : (b : ℕ) → is_one_of (codes " ,|") b ≡ false → is_joint b ≡ false
joins_none b h = grind (arith, nat_tests)

first_none : (b : ℕ) (more : Bool) → (32 == b || more) ≡ false → (b == 32) ≡ false
first_none b more h = by_space (32 == b) refl h
  where
    by_space : (k : Bool) → (32 == b) ≡ k → (k || more) ≡ false → (b == 32) ≡ false
    by_space true e f = absurd (true≢false f)
    by_space false e f = grind (arith, nat_tests)

spaces_in : (at before : ℕ) (spaces : List ℕ) (behind : ℕ) (back : List ℕ) → list_all (is_byte 32) spaces ≡ true
    → is_one_of (codes " ,|<>=") before ≡ false → is_one_of (codes " ,|") behind ≡ false
    → Has (at + length spaces) (map place (walk (Some before) at (spaces ++ 32 ∷ behind ∷ back)))
spaces_in at before [] behind back all f g =
    subst (λ p. Has (at + 0)
    (map place (if p then (at, 32) ∷ walk (Some before) (at + 1) (behind ∷ back) else walk (Some before) (at + 1) (behind ∷ back))))
    (sym stays) (inl (omega arith))
  where
    stays : parts (Some before) (behind ∷ back) ≡ true
    stays =
        ap (λ k. not k && has_gap (Some before) behind) (first_none behind (44 == behind || (124 == behind || false)) g)
        ∙ ap (λ k. not (k || is_joint behind)) (drops_none before f) ∙ ap not (joins_none behind g)
spaces_in at before (s ∷ ss) behind back all f g =
    let e : at + 1 + length ss ≡ at + length (s ∷ ss) = omega arith in
    space_step (at + length (s ∷ ss)) (Some before) at s (ss ++ 32 ∷ behind ∷ back) (and_left (s == 32) (list_all (is_byte 32) ss) all)
    (subst (λ i. Has i (map place (walk (Some before) (at + 1) (ss ++ 32 ∷ behind ∷ back)))) e
    (spaces_in (at + 1) before ss behind back (and_right (s == 32) (list_all (is_byte 32) ss) all) f g))

gap_in : (last : Option ℕ) (at : ℕ) (front : List ℕ) (before : ℕ) (spaces : List ℕ) (behind : ℕ) (back : List ℕ)
    → list_all (is_byte 32) spaces ≡ true
    → is_one_of (codes " ,|<>=") before ≡ false → is_one_of (codes " ,|") behind ≡ false
    → Has (at + (length front + 1 + length spaces)) (map place (walk last at (front ++ before ∷ (spaces ++ 32 ∷ behind ∷ back))))
gap_in last at [] before spaces behind back all f g =
    let e : at + 1 + length spaces ≡ at + (0 + 1 + length spaces) = omega arith in
    subst (λ i. Has i (map place (walk last at (before ∷ (spaces ++ 32 ∷ behind ∷ back))))) e
    (solid_step (at + 1 + length spaces) last at before (spaces ++ 32 ∷ behind ∷ back)
    (first_none before (44 == before || (124 == before || (60 == before || (62 == before || (61 == before || false))))) f)
    (spaces_in (at + 1) before spaces behind back all f g))
gap_in last at (b ∷ bs) before spaces behind back all f g =
    let e : at + 1 + (length bs + 1 + length spaces) ≡ at + (length (b ∷ bs) + 1 + length spaces) = omega arith in
    behind_in (at + (length (b ∷ bs) + 1 + length spaces)) last at b (bs ++ before ∷ (spaces ++ 32 ∷ behind ∷ back))
    (λ l. subst (λ i. Has i (map place (walk l (at + 1) (bs ++ before ∷ (spaces ++ 32 ∷ behind ∷ back))))) e
    (gap_in l (at + 1) bs before spaces behind back all f g))

stays_in : (text : List ℕ) (i : ℕ) → IsSolid text i ⊎ IsGap text i → Has i (map place (walk None 0 text))
stays_in text i (inl s) =
    let e : 0 + i ≡ i = omega arith in subst (λ j. Has j (map place (walk None 0 text))) e (solid_in None 0 text i s.0 s.1 s.2)
stays_in text i (inr g) =
    let at = g.place in
    let e : 0 + (length g.front + 1 + length g.spaces) ≡ i = omega arith in
    subst (λ j. Has j (map place (walk None 0 text))) e
    (subst (λ t. Has (0 + (length g.front + 1 + length g.spaces)) (map place (walk None 0 t))) (sym g.whole)
    (gap_in None 0 g.front g.before g.spaces g.behind g.back g.between g.stays_behind g.stays_before))

-- ---- both ways

kept_is : (text : List ℕ) → IsKept text (map (λ m. m.1) (walk None 0 text)) (map place (walk None 0 text))
kept_is text =
    let placed = walk_placed text [] None 0 text refl refl tt in
    record {
      stay = λ at. (
        λ h. placed_stays text (walk None 0 text) at placed (contains_has (map place (walk None 0 text)) at h),
        λ h. has_contains (map place (walk None 0 text)) at (stays_in text at h),
      );
      ascending = above_increasing 0 (map place (walk None 0 text)) (walk_above None 0 text);
      same = placed_chars text (walk None 0 text) placed;
    }

pub is_kept : (text : List ℕ) → IsKept text (kept text) (places text)
is_kept text = subst (λ ms. IsKept text (map (λ m. m.1) ms) (map place ms)) (sym (kept_walk text)) (kept_is text)

some_each : (xs ys : List ℕ) → map Some xs ≡ map Some ys → xs ≡ ys
some_each [] [] h = refl
some_each [] (y ∷ ys) h = cc
some_each (x ∷ xs) [] h = cc
some_each (x ∷ xs) (y ∷ ys) h =
    let first : x ≡ y = cc in
    let rest : map Some xs ≡ map Some ys = cc in
    ap (λ z. z ∷ xs) first ∙ ap (λ zs. y ∷ zs) (some_each xs ys rest)

pub only_kept : (text chars at : List ℕ) → IsKept text chars at → (chars ≡ kept text) × (at ≡ places text)
only_kept text chars at h =
    let is = is_kept text in
    let same = same_members 0 0 at (places text) (increasing_above 0 at (λ l. omega arith) h.ascending)
    (increasing_above 0 (places text) (λ l. omega arith) is.ascending)
    (λ i k. contains_has (places text) i ((is.stay i).1 ((h.stay i).0 (has_contains at i k))))
    (λ i k. contains_has at i ((h.stay i).1 ((is.stay i).0 (has_contains (places text) i k)))) in
    (some_each chars (kept text) (h.same ∙ ap (map (slice_get text)) same ∙ sym is.same), same)

pub kept_both : (text chars at : List ℕ) → (chars ≡ kept text) × (at ≡ places text) → IsKept text chars at
kept_both text chars at h = subst (λ c. IsKept text c at) (sym h.0) (subst (IsKept text (kept text)) (sym h.1) (is_kept text))
