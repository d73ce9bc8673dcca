-- What a text cut in two means, and what std's words say of it.
use Rattle.std.proofs.Common.{◌≡◌, ◌≢◌, ◌↔◌, ℕ, ◌+◌, ◌-◌, ◌≤◌, ◌<◌, Bool, true, false, cond, not, List, [], ◌∷◌, ◌++◌, length, get_or, take, drop, suc, ◌⊎◌, inl, inr, Option, Some, None, MatchOption, refl, sym, ap, ◌∙◌, arith, append_assoc, length-append, Bor}
use Rattle.std.specs.List.{after_first, after_last, before_first, before_last, position_or_len, slice_split, suffix_len}
use Rattle.std.specs.Option.{option_map}
use Rattle.std.specs.Prelude.{reverse, ◌==◌}
use Rattle.std.specs.Str.Pattern.{RFindsChar}
use Rattle.std.proofs.Math.Seq.{drop-append-add, take-append_seam}
use Rattle.std.proofs.lemmas.Bool.{eq-eqb, eqb-true}
use Rattle.std.proofs.lemmas.Bool.Decides.{eqb_tells}
use Rattle.std.proofs.lemmas.List.{length-reverse, reverse-append, take-append-drop}
use Rattle.std.proofs.lemmas.Str.Pattern.{IsSplitOnceResult, NoCharPasses-char, drop_at_char, split_parts}
use Rattle.conda_base.specs.Texts.{IsFreeOf, cut_behind, cut_first, cut_last, in_front, is_byte}

same_byte : (c : ℕ) → (c == c) ≡ true
same_byte c = eq-eqb c c refl

-- ---- the first mark

IsFirstCut : ℕ → List ℕ → Option (List ℕ × List ℕ) → Type 0
IsFirstCut c text cut =
    MatchOption cut (IsFreeOf c text) (λ halves. (text ≡ halves.0 ++ c ∷ halves.1) × IsFreeOf c halves.0)

first_is : (c : ℕ) (text : List ℕ) → IsFirstCut c text (cut_first c text)
unfolding IsFirstCut
first_is c [] = tt
first_is c (b ∷ rest) = by (b == c) refl (cut_first c rest) (first_is c rest)
  where
    by : (v : Bool) → (b == c) ≡ v → (cut : Option (List ℕ × List ℕ)) → IsFirstCut c rest cut → IsFirstCut c (b ∷ rest) (cond v (Some ([], rest)) (option_map (in_front b) cut))
    by true e cut h = (ap (λ x. x ∷ rest) (eqb-true b c e), tt)
    by false e None h = (e, h)
    by false e (Some halves) h = (ap (λ r. b ∷ r) h.0, (e, h.1))

first_at : (c : ℕ) (before behind : List ℕ) → IsFreeOf c before → cut_first c (before ++ c ∷ behind) ≡ Some (before, behind)
first_at c [] behind h = rw (same_byte c) refl
first_at c (b ∷ before) behind h = rw (h.0, first_at c before behind h.1) refl

pub no_first_in : (c : ℕ) (text : List ℕ) → IsFreeOf c text → cut_first c text ≡ None
no_first_in c [] h = refl
no_first_in c (b ∷ rest) h = rw (h.0, no_first_in c rest h.1) refl

pub first_law : (c : ℕ) (text before behind : List ℕ) → (cut_first c text ≡ Some (before, behind)) ↔ ((text ≡ before ++ c ∷ behind) × IsFreeOf c before)
unfolding IsFirstCut
first_law c text before behind =
    (λ e. let h = first_is c text in rw e at h, λ h. rw (h.0) (first_at c before behind h.1))

pub no_first_law : (c : ℕ) (text : List ℕ) → (cut_first c text ≡ None) ↔ IsFreeOf c text
unfolding IsFirstCut
no_first_law c text = (λ e. let h = first_is c text in rw e at h, no_first_in c text)

-- ---- the last mark

IsLastCut : ℕ → List ℕ → Option (List ℕ × List ℕ) → Type 0
IsLastCut c text cut =
    MatchOption cut (IsFreeOf c text) (λ halves. (text ≡ halves.0 ++ c ∷ halves.1) × IsFreeOf c halves.1)

last_is : (c : ℕ) (text : List ℕ) → IsLastCut c text (cut_last c text)
unfolding IsLastCut
last_is c [] = tt
last_is c (b ∷ rest) = by (cut_last c rest) (last_is c rest)
  where
    at : (v : Bool) → (b == c) ≡ v → IsFreeOf c rest → IsLastCut c (b ∷ rest) (cond v (Some ([], rest)) None)
    at true e h = (ap (λ x. x ∷ rest) (eqb-true b c e), h)
    at false e h = (e, h)

    by : (cut : Option (List ℕ × List ℕ)) → IsLastCut c rest cut → IsLastCut c (b ∷ rest) (cut_behind c b rest cut)
    by None h = at (b == c) refl h
    by (Some halves) h = (ap (λ r. b ∷ r) h.0, h.1)

pub no_last_in : (c : ℕ) (text : List ℕ) → IsFreeOf c text → cut_last c text ≡ None
no_last_in c [] h = refl
no_last_in c (b ∷ rest) h = rw (no_last_in c rest h.1, h.0) refl

last_at : (c : ℕ) (before behind : List ℕ) → IsFreeOf c behind → cut_last c (before ++ c ∷ behind) ≡ Some (before, behind)
last_at c [] behind h = rw (no_last_in c behind h, same_byte c) refl
last_at c (b ∷ before) behind h = rw (last_at c before behind h) refl

pub last_law : (c : ℕ) (text before behind : List ℕ) → (cut_last c text ≡ Some (before, behind)) ↔ ((text ≡ before ++ c ∷ behind) × IsFreeOf c behind)
unfolding IsLastCut
last_law c text before behind =
    (λ e. let h = last_is c text in rw e at h, λ h. rw (h.0) (last_at c before behind h.1))

pub no_last_law : (c : ℕ) (text : List ℕ) → (cut_last c text ≡ None) ↔ IsFreeOf c text
unfolding IsLastCut
no_last_law c text = (λ e. let h = last_is c text in rw e at h, no_last_in c text)

-- ---- std's words

length_free : (c : ℕ) (text : List ℕ) → IsFreeOf c text → position_or_len (is_byte c) text ≡ length text
length_free c [] h = refl
length_free c (b ∷ rest) h = rw (h.0) (omega (arith, length_free c rest h.1))

place : (c : ℕ) (before behind : List ℕ) → IsFreeOf c before → position_or_len (is_byte c) (before ++ c ∷ behind) ≡ length before
place c [] behind h = rw (same_byte c) refl
place c (b ∷ before) behind h = rw (h.0) (omega (arith, place c before behind h.1))

free_append : (c : ℕ) (xs ys : List ℕ) → IsFreeOf c xs → IsFreeOf c ys → IsFreeOf c (xs ++ ys)
free_append c [] ys g h = h
free_append c (x ∷ xs) ys g h = (g.0, free_append c xs ys g.1 h)

free_reverse : (c : ℕ) (xs : List ℕ) → IsFreeOf c xs → IsFreeOf c (reverse xs)
free_reverse c [] h = tt
free_reverse c (x ∷ xs) h =
    rw (reverse-append (x ∷ []) xs) (free_append c (reverse xs) (x ∷ []) (free_reverse c xs h.1) (h.0, tt))

place_behind : (c : ℕ) (before behind : List ℕ) → IsFreeOf c behind → suffix_len (λ b. not (b == c)) (before ++ c ∷ behind) ≡ length behind
place_behind c before behind h =
    let turned : reverse (before ++ c ∷ behind) ≡ reverse behind ++ c ∷ reverse before =
    reverse-append before (c ∷ behind) ∙ ap (λ r. r ++ reverse before) (reverse-append (c ∷ []) behind) ∙ append_assoc (reverse behind) (c ∷ []) (reverse before)
    in
    ap (position_or_len (is_byte c)) turned ∙ place c (reverse behind) (reverse before) (free_reverse c behind h) ∙ length-reverse behind

-- the halves at a place
taken : (before behind : List ℕ) (c at : ℕ) → at ≡ length before → take at (before ++ c ∷ behind) ≡ before
taken before behind c at e = rw e (take-append_seam before (c ∷ behind))

dropped : (before behind : List ℕ) (c at : ℕ) → at ≡ length before + 1 → drop at (before ++ c ∷ behind) ≡ behind
dropped before behind c at e = rw e (drop-append-add before (c ∷ behind) 1)

split_at : (c : ℕ) (before behind : List ℕ) → IsFreeOf c before → slice_split (is_byte c) (before ++ c ∷ behind) ≡ before ∷ slice_split (is_byte c) behind
split_at c [] behind h = rw (same_byte c) refl
split_at c (b ∷ before) behind h = rw (h.0, split_at c before behind h.1) refl

split_free : (c : ℕ) (text : List ℕ) → IsFreeOf c text → slice_split (is_byte c) text ≡ text ∷ []
split_free c [] h = refl
split_free c (b ∷ rest) h = rw (h.0, split_free c rest h.1) refl

pub first_words_law : (c : ℕ) (text before behind : List ℕ) → cut_first c text ≡ Some (before, behind) → (before_first (is_byte c) text ≡ before) × (after_first (is_byte c) text ≡ behind) × (slice_split (is_byte c) text ≡ before ∷ slice_split (is_byte c) behind)
first_words_law c text before behind e =
    let h = (first_law c text before behind).0 e in
    let at = place c before behind h.1 in
    rw (h.0) (taken before behind c _ at, dropped before behind c _ (ap (λ n. n + 1) at), split_at c before behind h.1)

pub last_words_law : (c : ℕ) (text before behind : List ℕ) → cut_last c text ≡ Some (before, behind) → (before_last (is_byte c) text ≡ before) × (after_last (is_byte c) text ≡ behind)
last_words_law c text before behind e =
    let h = (last_law c text before behind).0 e in
    let at = place_behind c before behind h.1 in
    let all = length-append before (c ∷ behind) in
    rw (h.0) (taken before behind c _ (omega (arith, at, all)), dropped before behind c _ (omega (arith, at, all)))

pub free_words_law : (c : ℕ) (text : List ℕ) → IsFreeOf c text → (before_first (is_byte c) text ≡ text) × (after_first (is_byte c) text ≡ []) × (before_last (is_byte c) text ≡ []) × (after_last (is_byte c) text ≡ text) × (slice_split (is_byte c) text ≡ text ∷ [])
free_words_law c text h =
    let front : position_or_len (is_byte c) text ≡ length text = length_free c text h in
    let back : suffix_len (λ b. not (b == c)) text ≡ length text =
    length_free c (reverse text) (free_reverse c text h) ∙ length-reverse text
    in
    let none : length text - suffix_len (λ b. not (b == c)) text ≡ 0 = omega (arith, back) in
    (rw front (whole text), rw front (past text), rw none refl, rw none refl, split_free c text h)
  where
    whole : (text : List ℕ) → take (length text) text ≡ text
    whole [] = refl
    whole (b ∷ rest) = ap (λ r. b ∷ r) (whole rest)

    past : (text : List ℕ) → drop (length text + 1) text ≡ []
    past [] = refl
    past (b ∷ rest) = let e : length (b ∷ rest) + 1 ≡ suc (length rest + 1) = omega arith in rw e (past rest)

-- ---- the methods of Rust's `str`

free_at : (c : ℕ) (text : List ℕ) → ((k : ℕ) → k < length text → get_or text k 0 ≢ c) → IsFreeOf c text
free_at c [] h = tt
free_at c (b ∷ rest) h = (by (eqb_tells b c), free_at c rest (λ k q. h (suc k) (omega (arith, q))))
  where
    by : (((b == c) ≡ true) × (b ≡ c)) ⊎ (((b == c) ≡ false) × (b ≢ c)) → (b == c) ≡ false
    by (inl g) = absurd (h 0 (omega arith) g.1)
    by (inr g) = g.0

pub first_cuts : (c : ℕ) (text : List ℕ) (r : Option (Bor (List ℕ) × Bor (List ℕ))) → IsSplitOnceResult c text r → c < 128 → MatchOption r (cut_first c text ≡ None) (λ x. cut_first c text ≡ Some (x.0.now, x.1.now))
first_cuts c text r h small = by r (split_parts c text r h small)
  where
    by : (r : Option (Bor (List ℕ) × Bor (List ℕ))) → MatchOption r ((i : ℕ) → i < length text → get_or text i 0 ≢ c) (λ x. (text ≡ x.0.now ++ (c ∷ x.1.now)) × ((i : ℕ) → i < length x.0.now → get_or x.0.now i 0 ≢ c)) → MatchOption r (cut_first c text ≡ None) (λ x. cut_first c text ≡ Some (x.0.now, x.1.now))
    by None g = no_first_in c text (free_at c text g)
    by (Some x) g = (first_law c text x.0.now x.1.now).1 (g.0, free_at c x.0.now g.1)

pub last_cuts : (c : ℕ) (text : List ℕ) (r : Option (Bor (List ℕ) × Bor (List ℕ))) → MatchOption r (RFindsChar c text None) (λ x. (i : ℕ) × (j : ℕ) × RFindsChar c text (Some (i, j)) × (x.0.now ≡ take i text) × (x.1.now ≡ drop j text) × (i ≤ j) × (length x.0.now ≡ i) × (length x.1.now + j ≡ length text)) → c < 128 → MatchOption r (cut_last c text ≡ None) (λ x. cut_last c text ≡ Some (x.0.now, x.1.now))
last_cuts c text None h small = no_last_in c text (free_at c text (λ k q. NoCharPasses-char c text k h small q))
last_cuts c text (Some x) h small =
    let behind : IsFreeOf c (drop h.1 text) =
    free_at c (drop h.1 text) (λ k q. NoCharPasses-char c (drop h.1 text) k h.2.0 small q)
    in
    let whole : text ≡ take h.0 text ++ c ∷ drop h.1 text =
    sym (take-append-drop h.0 text) ∙ ap (λ r. take h.0 text ++ r) (drop_at_char c text h.0 h.1 h.2.1 small)
    in
    let cut : cut_last c text ≡ Some (take h.0 text, drop h.1 text) =
    (last_law c text (take h.0 text) (drop h.1 text)).1 (whole, behind)
    in
    rw (h.3, h.4) cut
