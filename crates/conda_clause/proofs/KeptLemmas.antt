-- Lemmas on the characters that stay.
use Rattle.std.proofs.Common.{◌≡◌, ℕ, ◌+◌, ◌<◌, Bool, List, [], ◌∷◌, ◌++◌, length, map, Option, refl, ap, ◌∙◌, arith, append_assoc, append-nil}
use Rattle.std.proofs.lemmas.Bool.Decides.{nat_tests}
use Rattle.std.proofs.lemmas.List.{map-append}
use Rattle.std.proofs.lemmas.List.Splits.{slice_split_first}
use Rattle.std.proofs.lemmas.Grind.{common_steps}
use Rattle.std.specs.Prelude.{◌==◌}
use Rattle.std.specs.List.{after_first, before_first, position_or_len, slice_split}
use Rattle.conda_clause.specs.Kept.{kept_runs, last_of, chars_at, run_chars}

abbrev pub is_space : ℕ → Bool
is_space b = b == 32

-- the marked characters of a run are the run
pub marks_text : (at : ℕ) (bs : List ℕ) → map (λ m. m.1) (chars_at at bs) ≡ bs
marks_text at [] = refl
marks_text at (b ∷ bs) = ap (λ cs. b ∷ cs) (marks_text (at + 1) bs)

split_of_none : (xs : List ℕ) → position_or_len is_space xs ≡ length xs → slice_split is_space xs ≡ xs ∷ []
split_of_none [] h = refl
split_of_none (x ∷ xs) h = grind (arith, nat_tests, split_of_none xs)

-- what is seen of the last run
pub seen_last : {A : Type 0} (seen : ℕ × ℕ → A) (made : List A) (last : Option ℕ) (at : ℕ) (xs : List ℕ)
    → position_or_len is_space xs ≡ length xs
    → made ++ map seen (kept_runs last at (slice_split is_space xs)) ≡ made ++ map seen (run_chars last at xs)
seen_last seen made last at xs h =
    ap (λ runs. made ++ map seen (kept_runs last at runs)) (split_of_none xs h) ∙ ap (λ ms. made ++ map seen ms) (simp append-nil)

-- what is seen of the first run and of those behind it
pub seen_first : {A : Type 0} (seen : ℕ × ℕ → A) (made : List A) (last : Option ℕ) (at : ℕ) (xs : List ℕ)
    → position_or_len is_space xs < length xs
    → made ++ map seen (kept_runs last at (slice_split is_space xs))
    ≡ (made ++ map seen (run_chars last at (before_first is_space xs)))
    ++ map seen (kept_runs (last_of last (before_first is_space xs)) (at + length (before_first is_space xs) + 1)
    (slice_split is_space (after_first is_space xs)))
seen_first seen made last at xs h =
    ap (λ runs. made ++ map seen (kept_runs last at runs)) (slice_split_first is_space xs 0 h) ∙ simp (map-append, append_assoc)

-- the step from one run to those behind it
pub seen_step : {A : Type 0} (seen : ℕ × ℕ → A) (made more : List A) (last next : Option ℕ) (at : ℕ) (left run rest : List ℕ)
    → position_or_len is_space left < length left → run ≡ before_first is_space left → rest ≡ after_first is_space left
    → next ≡ last_of last run → more ≡ made ++ map seen (run_chars last at run)
    → more ++ map seen (kept_runs next (at + length run + 1) (slice_split is_space rest)) ≡ made ++ map seen
    (kept_runs last at (slice_split is_space left))
seen_step seen made more last next at left run rest h is_run is_rest is_next is_more = let whole = seen_first seen made last at left h in cc

-- a text is its first run, a space and the rest
pub parts_length : (left run rest : List ℕ) → position_or_len is_space left < length left → run ≡ before_first is_space left
    → rest ≡ after_first is_space left
    → length run + 1 + length rest ≡ length left
parts_length left run rest h is_run is_rest = grind (arith, common_steps)
