-- Lemmas on where the characters that stay stood.
use Rattle.std.proofs.Common.{◌≡◌, ℕ, zero, suc, ◌+◌, ◌-◌, ◌≤◌, Bool, true, false, cond, not, List, [], ◌∷◌, ◌++◌, length, map, Option, None, refl, ap, ◌∙◌, arith, append-nil}
use Rattle.std.specs.Prelude.{if◌then◌else◌, ◌==◌, ◌&&◌, slice_get, unwrap_or}
use Rattle.std.specs.List.{list_all, onto_first, slice_split}
use Rattle.conda_clause.specs.Faults.{place_of}
use Rattle.conda_clause.specs.Kept.{has_gap, kept, kept_runs, last_of, chars_at, kept_chars, run_chars}
use Rattle.conda_clause.proofs.KeptLemmas.{is_space, marks_text}

-- A text without spaces.

abbrev pub no_space : ℕ → Bool
no_space b = not (b == 32)

bare_split : (xs : List ℕ) → list_all no_space xs ≡ true → slice_split is_space xs ≡ xs ∷ []
bare_split [] h = refl
bare_split (x ∷ xs) h = by_space (x == 32) h (bare_split xs)
  where
    by_space : (k : Bool) → (not k && list_all no_space xs) ≡ true → (list_all no_space xs ≡ true → slice_split is_space xs ≡ xs ∷ [])
        → cond k ([] ∷ slice_split is_space xs) (onto_first x (slice_split is_space xs)) ≡ (x ∷ xs) ∷ []
    by_space true e more = absurd cc
    by_space false e more = ap (onto_first x) (more e)

bare_marks : (xs : List ℕ) → list_all no_space xs ≡ true → kept_chars xs ≡ chars_at 0 xs
bare_marks xs h = ap (kept_runs None 0) (bare_split xs h) ∙ only xs
  where
    only : (ys : List ℕ) → kept_runs None 0 (ys ∷ []) ≡ chars_at 0 ys
    only [] = refl
    only (y ∷ ys) = append-nil (chars_at 0 (y ∷ ys))

-- it is kept as it is
pub kept_bare : (xs : List ℕ) → list_all no_space xs ≡ true → kept xs ≡ xs
kept_bare xs h = ap (map (λ m. m.1)) (bare_marks xs h) ∙ marks_text 0 xs

place_at : (at : ℕ) (xs : List ℕ) (i end : ℕ) → i ≤ length xs → end ≡ at + length xs
    → unwrap_or (slice_get (map (λ m. m.0) (chars_at at xs)) i) end ≡ at + i
place_at at [] i end h e = omega arith
place_at at (x ∷ xs) zero end h e = omega arith
place_at at (x ∷ xs) (suc i) end h e = place_at (at + 1) xs i end (omega arith) (omega arith) ∙ omega arith

-- each character stays where it stood
pub places_bare : (xs : List ℕ) → list_all no_space xs ≡ true → (i : ℕ) → i ≤ length xs → place_of xs i ≡ i
places_bare xs h i inside =
    ap (λ ms. unwrap_or (slice_get (map (λ m. m.0) ms) i) (length xs)) (bare_marks xs h) ∙ place_at 0 xs i (length xs) inside (omega arith)
    ∙ omega arith

-- No place lies behind the end.

abbrev total : List (List ℕ) → ℕ
total [] = 0
total (run ∷ runs) = length run + 1 + total runs

split_total : (xs : List ℕ) → total (slice_split is_space xs) ≡ length xs + 1
split_total [] = refl
split_total (x ∷ xs) = by_space (x == 32) (split_total xs)
  where
    onto : (runs : List (List ℕ)) → total runs ≡ length xs + 1 → total (onto_first x runs) ≡ length (x ∷ xs) + 1
    onto [] e = absurd (omega arith)
    onto (run ∷ runs) e = omega arith

    by_space : (k : Bool) → total (slice_split is_space xs) ≡ length xs + 1
        → total (cond k ([] ∷ slice_split is_space xs) (onto_first x (slice_split is_space xs))) ≡ length (x ∷ xs) + 1
    by_space true e = omega arith
    by_space false e = onto (slice_split is_space xs) e

-- each of these places is at most n
abbrev AreWithin : ℕ → List (ℕ × ℕ) → Type 0
AreWithin n ms = (i end : ℕ) → end ≤ n → unwrap_or (slice_get (map (λ m. m.0) ms) i) end ≤ n

within_append : (n : ℕ) (ms ns : List (ℕ × ℕ)) → AreWithin n ms → AreWithin n ns → AreWithin n (ms ++ ns)
within_append n [] ns h k i end e = k i end e
within_append n (m ∷ ms) ns h k zero end e = h zero end e
within_append n (m ∷ ms) ns h k (suc i) end e = within_append n ms ns (λ j last f. h (suc j) last f) k i end e

within_cons : (n at b : ℕ) (ms : List (ℕ × ℕ)) → at ≤ n → AreWithin n ms → AreWithin n ((at, b) ∷ ms)
within_cons n at b ms h k zero end e = h
within_cons n at b ms h k (suc i) end e = k i end e

within_run : (n at : ℕ) (xs : List ℕ) → at + length xs ≤ n → AreWithin n (chars_at at xs)
within_run n at [] h = λ i end e. e
within_run n at (x ∷ xs) h = within_cons n at x (chars_at (at + 1) xs) (omega arith) (within_run n (at + 1) xs (omega arith))

within_marks : (n at : ℕ) (last : Option ℕ) (xs : List ℕ) → at + length xs ≤ n → AreWithin n (run_chars last at xs)
within_marks n at last [] h = λ i end e. e
within_marks n at last (x ∷ xs) h = by_gap (has_gap last x)
  where
    by_gap : (k : Bool) → AreWithin n (if k then (at - 1, 32) ∷ chars_at at (x ∷ xs) else chars_at at (x ∷ xs))
    by_gap true = within_cons n (at - 1) 32 (chars_at at (x ∷ xs)) (omega arith) (within_run n at (x ∷ xs) h)
    by_gap false = within_run n at (x ∷ xs) h

within_runs : (n at : ℕ) (last : Option ℕ) (runs : List (List ℕ)) → at + total runs ≤ n + 1 → AreWithin n (kept_runs last at runs)
within_runs n at last [] h = λ i end e. e
within_runs n at last (run ∷ runs) h =
    within_append n (run_chars last at run) (kept_runs (last_of last run) (at + length run + 1) runs)
    (within_marks n at last run (omega arith))
    (within_runs n (at + length run + 1) (last_of last run) runs (omega arith))

pub place_inside : (text : List ℕ) (i : ℕ) → place_of text i ≤ length text
place_inside text i =
    within_runs (length text) 0 None (slice_split is_space text) (omega (arith, split_total text)) i (length text) (omega arith)
