-- Runs of digits and words by turns: those of a text, and that a text has no others.
use Rattle.std.proofs.Common.{◌≡◌, ℕ, zero, suc, ◌+◌, ◌<◌, ◌≤◌, Bool, true, false, cond, List, [], ◌∷◌, ◌++◌, length, take, drop, map, refl, sym, ap, subst, ◌∙◌, arith, length-drop}
use Rattle.std.proofs.lemmas.Bool.{and_from, and_parts}
use Rattle.std.proofs.lemmas.Bool.Decides.{nat_tests}
use Rattle.std.proofs.lemmas.List.{take-append-drop}
use Rattle.std.proofs.lemmas.List.Folds.{list_all-append}
use Rattle.std.specs.Bool.{beq}
use Rattle.std.specs.Prelude.{not, ◌||◌}
use Rattle.std.specs.Char.{is_ascii_digit}
use Rattle.std.specs.List.{concat, list_all, prefix_len}
use Rattle.std.specs.Str.{all_ascii_digits}
use Rattle.conda_base.specs.Numbers.{is_digits}
use Rattle.conda_version.specs.declared.run.Run.{Run}
use Rattle.conda_version.specs.Grammar.{HasShortRuns, component_of, onto_runs, run_len, runs_of}
use Rattle.conda_version.specs.Versions.{IsComponent, IsRun, TakeTurns, begins_with_digit, is_letter, run_of, with_zero}
use Rattle.conda_version.proofs.RunLemmas.{all_digits, all_of_prefix, OtherKind, beq_self, first_run_value, kind_is, like, run_front, run_some, runs_first, short_of_drop, stops}

-- a character of a component
abbrev pub is_piece_char : ℕ → Bool
is_piece_char b = is_ascii_digit b || is_letter b

-- ---- tests on all characters

pub all_front : (p : ℕ → Bool) (xs ys : List ℕ) → list_all p (xs ++ ys) ≡ true → (list_all p xs ≡ true) × (list_all p ys ≡ true)
all_front p xs ys h = and_parts (list_all p xs) (list_all p ys) (sym (list_all-append p xs ys) ∙ h)

pub all_both : (p : ℕ → Bool) (xs ys : List ℕ) → list_all p xs ≡ true → list_all p ys ≡ true → list_all p (xs ++ ys) ≡ true
all_both p xs ys h k = list_all-append p xs ys ∙ and_from (list_all p xs) (list_all p ys) h k

all_take : (p : ℕ → Bool) (n : ℕ) (xs : List ℕ) → list_all p xs ≡ true → (list_all p (take n xs) ≡ true) × (list_all p (drop n xs) ≡ true)
all_take p n xs h = all_front p (take n xs) (drop n xs) (ap (list_all p) (take-append-drop n xs) ∙ h)

pub all_as : (p q : ℕ → Bool) → ((b : ℕ) → p b ≡ true → q b ≡ true) → (xs : List ℕ) → list_all p xs ≡ true → list_all q xs ≡ true
all_as p q more [] h = refl
all_as p q more (x ∷ xs) h =
    let parts = and_parts (p x) (list_all p xs) h in
    and_from (q x) (list_all q xs) (more x parts.0) (all_as p q more xs parts.1)

digits_from : (ds : List ℕ) → list_all is_ascii_digit ds ≡ true → all_ascii_digits ds ≡ true
digits_from [] h = refl
digits_from (d ∷ ds) h =
    let parts = and_parts (is_ascii_digit d) (list_all is_ascii_digit ds) h in
    and_from (is_ascii_digit d) (all_ascii_digits ds) parts.0 (digits_from ds parts.1)

letters_of : (xs : List ℕ) → list_all is_piece_char xs ≡ true → list_all (like false) xs ≡ true → list_all is_letter xs ≡ true
letters_of [] h k = refl
letters_of (x ∷ xs) h k =
    let chars = and_parts (is_piece_char x) (list_all is_piece_char xs) h in
    let kinds = and_parts (like false x) (list_all (like false) xs) k in
    and_from (is_letter x) (list_all is_letter xs) (letter (is_ascii_digit x) (is_letter x) chars.0 kinds.0) (letters_of xs chars.1 kinds.1)
  where
    letter : (d l : Bool) → (d || l) ≡ true → beq false d ≡ true → l ≡ true
    letter true l h k = absurd cc
    letter false l h k = h

-- ---- the runs of a text take turns

turns_other : (k : Bool) (rest : List ℕ) → OtherKind k rest → TakeTurns (begins_with_digit rest) (runs_of rest)
    → TakeTurns (not k) (runs_of rest)
turns_other k [] o h = tt
turns_other k (b ∷ bs) o h = subst (λ d. TakeTurns d (runs_of (b ∷ bs))) o h

first_is : (w : List ℕ) → 0 < length w → HasShortRuns w → list_all is_piece_char w ≡ true → IsRun (begins_with_digit w) (take (run_len w) w)
first_is [] some short chars = absurd (omega arith)
first_is (b ∷ bs) some short chars = by_kind (is_ascii_digit b) refl
  where
    by_kind : (k : Bool) → is_ascii_digit b ≡ k → IsRun (is_ascii_digit b) (take (run_len (b ∷ bs)) (b ∷ bs))
    by_kind true e =
        let m : ℕ = prefix_len (like (is_ascii_digit b)) bs in
        let len : run_len (b ∷ bs) ≡ suc m = ap (λ k. cond k (1 + m) 0) (beq_self (is_ascii_digit b)) ∙ omega arith in
        let begins : begins_with_digit (take (run_len (b ∷ bs)) (b ∷ bs)) ≡ true = ap (λ n. begins_with_digit (take n (b ∷ bs))) len ∙ e in
        let value = first_run_value (b ∷ bs) short begins in
        let digits : is_digits (take (run_len (b ∷ bs)) (b ∷ bs)) ≡ true =
        ap (λ n. is_digits (take n (b ∷ bs))) len
        ∙ digits_from (b ∷ take m bs) (sym (ap (λ n. list_all is_ascii_digit (take n (b ∷ bs))) len) ∙ value.0) in
        subst (λ k. IsRun k (take (run_len (b ∷ bs)) (b ∷ bs))) (sym e) (digits, value.1)
    by_kind false e =
        let w : List ℕ = b ∷ bs in
        let n : ℕ = run_len w in
        let m : ℕ = prefix_len (like (is_ascii_digit b)) bs in
        let len : run_len (b ∷ bs) ≡ suc m = ap (λ k. cond k (1 + m) 0) (beq_self (is_ascii_digit b)) ∙ omega arith in
        let kinds : list_all (like false) (take n w) ≡ true =
        ap (λ k. list_all (like k) (take n w)) (sym e) ∙ all_of_prefix (like (is_ascii_digit b)) w in
        let letters = letters_of (take n w) (all_take is_piece_char n w chars).0 kinds in
        let long : 0 < length (take n w) = subst (λ i. 0 < length (take i w)) (sym len) (omega arith) in
        subst (λ k. IsRun k (take n w)) (sym e) (long, letters)

turns_of : (n : ℕ) (w : List ℕ) → length w ≤ n → HasShortRuns w → list_all is_piece_char w ≡ true
    → TakeTurns (begins_with_digit w) (runs_of w)
turns_of n [] h short chars = tt
turns_of zero (b ∷ bs) h short chars = absurd (omega arith)
turns_of (suc n) (b ∷ bs) h short chars =
    let w : List ℕ = b ∷ bs in
    let m : ℕ = run_len w in
    let long : 0 < length w = omega arith in
    let some : 0 < m = run_some b bs in
    let less : length (drop m w) ≤ n = omega (arith, length-drop m w) in
    let rest = turns_of n (drop m w) less (short_of_drop m w short) (all_take is_piece_char m w chars).1 in
    subst (TakeTurns (begins_with_digit w)) (sym (runs_first w long))
    (first_is w long short chars, turns_other (begins_with_digit w) (drop m w) (stops (begins_with_digit w) w) rest)

concat_joined : (b : ℕ) (runs : List (List ℕ)) → concat (onto_runs b runs) ≡ b ∷ concat runs
concat_joined b [] = refl
concat_joined b ([] ∷ runs) = refl
concat_joined b ((c ∷ run) ∷ runs) = by_kind (beq (is_ascii_digit b) (is_ascii_digit c))
  where
    by_kind : (k : Bool) → concat (cond k ((b ∷ c ∷ run) ∷ runs) ((b ∷ []) ∷ (c ∷ run) ∷ runs)) ≡ b ∷ c ∷ run ++ concat runs
    by_kind true = refl
    by_kind false = refl

concat_runs : (w : List ℕ) → concat (runs_of w) ≡ w
concat_runs [] = refl
concat_runs (b ∷ bs) = concat_joined b (runs_of bs) ∙ ap (λ xs. b ∷ xs) (concat_runs bs)

some_runs : (w : List ℕ) → 0 < length w → 0 < length (runs_of w)
some_runs w h = subst (λ runs. 0 < length runs) (sym (runs_first w h)) (omega arith)

pub component_sound : (w : List ℕ) → 0 < length w → HasShortRuns w → list_all is_piece_char w ≡ true → IsComponent w (component_of w)
component_sound w some short chars = record {
  digits_first = begins_with_digit w;
  runs = runs_of w;
  some = some_runs w some;
  whole = sym (concat_runs w);
  turns = turns_of (length w) w (omega arith) short chars;
  means = refl;
}

-- ---- runs by turns are those of their text

kind_of_run : (k : Bool) (run : List ℕ) → IsRun k run → (0 < length run) × (list_all (like k) run ≡ true)
kind_of_run true [] h = absurd cc
kind_of_run true (b ∷ bs) h = (omega arith, all_as is_ascii_digit (like true) (λ b d. ap (beq true) d) (b ∷ bs) (all_digits (b ∷ bs) h.0))
kind_of_run false run h = (h.0, all_as is_letter (like false) (λ b l. ap (beq false) (no_digit b l)) run h.1)
  where
    no_digit : (b : ℕ) → is_letter b ≡ true → is_ascii_digit b ≡ false
    no_digit b h = grind (arith, nat_tests)

other_of_turns : (k : Bool) (runs : List (List ℕ)) → TakeTurns (not k) runs → OtherKind k (concat runs)
other_of_turns k [] t = tt
other_of_turns k ([] ∷ runs) t = absurd (omega (arith, (kind_of_run (not k) [] t.0).0))
other_of_turns k ((b ∷ bs) ∷ runs) t =
    let kinds = and_parts (like (not k) b) (list_all (like (not k)) bs) (kind_of_run (not k) (b ∷ bs) t.0).1 in
    kind_is (not k) (is_ascii_digit b) kinds.0

runs_again : (k : Bool) (runs : List (List ℕ)) → TakeTurns k runs → runs_of (concat runs) ≡ runs
runs_again k [] t = refl
runs_again k (run ∷ runs) t =
    let kinds = kind_of_run k run t.0 in
    run_front k run (concat runs) kinds.0 kinds.1 (other_of_turns k runs t.1) ∙ ap (λ rs. run ∷ rs) (runs_again (not k) runs t.1)

begins_again : (k : Bool) (runs : List (List ℕ)) → 0 < length runs → TakeTurns k runs → begins_with_digit (concat runs) ≡ k
begins_again k [] some t = absurd (omega arith)
begins_again k ([] ∷ runs) some t = absurd (omega (arith, (kind_of_run k [] t.0).0))
begins_again k ((b ∷ bs) ∷ runs) some t =
    let kinds = and_parts (like k b) (list_all (like k) bs) (kind_of_run k (b ∷ bs) t.0).1 in
    kind_is k (is_ascii_digit b) kinds.0

chars_of_run : (k : Bool) (run : List ℕ) → IsRun k run → list_all is_piece_char run ≡ true
chars_of_run true [] h = refl
chars_of_run true (b ∷ bs) h = all_as is_ascii_digit is_piece_char (λ b d. ap (λ k. k || is_letter b) d) (b ∷ bs) (all_digits (b ∷ bs) h.0)
chars_of_run false run h = all_as is_letter is_piece_char (λ b l. either (is_ascii_digit b) (is_letter b) l) run h.1
  where
    either : (d l : Bool) → l ≡ true → (d || l) ≡ true
    either true l h = refl
    either false l h = h

chars_of_turns : (k : Bool) (runs : List (List ℕ)) → TakeTurns k runs → list_all is_piece_char (concat runs) ≡ true
chars_of_turns k [] t = refl
chars_of_turns k (run ∷ runs) t = all_both is_piece_char run (concat runs) (chars_of_run k run t.0) (chars_of_turns (not k) runs t.1)

-- ---- runs of digits in texts that are put together

abbrev Short : List ℕ → Type 0
Short text = (i : ℕ) → prefix_len is_ascii_digit (drop i text) ≤ 38

word_front : (run more : List ℕ) → list_all (like false) run ≡ true → Short more → Short (run ++ more)
word_front [] more h short i = short i
word_front (b ∷ run) more h short zero =
    let kinds = and_parts (like false b) (list_all (like false) run) h in
    omega (arith, ap (λ k. cond k (1 + prefix_len is_ascii_digit (run ++ more)) 0) (kind_is false (is_ascii_digit b) kinds.0))
word_front (b ∷ run) more h short (suc i) = word_front run more (and_parts (like false b) (list_all (like false) run) h).1 short i

digits_within : (run more : List ℕ) → OtherKind true more → prefix_len is_ascii_digit (run ++ more) ≤ length run
digits_within [] [] o = omega arith
digits_within [] (b ∷ bs) o = omega (arith, ap (λ k. cond k (1 + prefix_len is_ascii_digit bs) 0) o)
digits_within (b ∷ run) more o = by_kind (is_ascii_digit b) (digits_within run more o)
  where
    by_kind : (k : Bool) → prefix_len is_ascii_digit (run ++ more) ≤ length run
        → cond k (1 + prefix_len is_ascii_digit (run ++ more)) 0 ≤ suc (length run)
    by_kind true h = omega arith
    by_kind false h = omega arith

numeral_front : (run more : List ℕ) → length run ≤ 38 → OtherKind true more → Short more → Short (run ++ more)
numeral_front [] more h o short i = short i
numeral_front (b ∷ run) more h o short zero = omega (arith, digits_within (b ∷ run) more o)
numeral_front (b ∷ run) more h o short (suc i) = numeral_front run more (omega arith) o short i

before_within : (xs : List ℕ) (c : ℕ) (ys : List ℕ) → is_ascii_digit c ≡ false
    → prefix_len is_ascii_digit (xs ++ c ∷ ys) ≡ prefix_len is_ascii_digit xs
before_within [] c ys e = ap (λ k. cond k (1 + prefix_len is_ascii_digit ys) 0) e
before_within (x ∷ xs) c ys e = ap (λ n. cond (is_ascii_digit x) (1 + n) 0) (before_within xs c ys e)

before_each : (xs : List ℕ) (c : ℕ) (ys : List ℕ) → is_ascii_digit c ≡ false → Short xs → Short ys → Short (xs ++ c ∷ ys)
before_each [] c ys e h k zero = omega (arith, before_within [] c ys e)
before_each [] c ys e h k (suc i) = k i
before_each (x ∷ xs) c ys e h k zero = omega (arith, before_within (x ∷ xs) c ys e, h 0)
before_each (x ∷ xs) c ys e h k (suc i) = before_each xs c ys e (λ j. h (suc j)) k i

-- two texts with a character between them that is no digit
pub short_before : (xs : List ℕ) (c : ℕ) (ys : List ℕ) → is_ascii_digit c ≡ false → HasShortRuns xs → HasShortRuns ys
    → HasShortRuns (xs ++ c ∷ ys)
short_before xs c ys e h k = record { each = before_each xs c ys e h.each k.each }

short_turns : (k : Bool) (runs : List (List ℕ)) → TakeTurns k runs → Short (concat runs)
short_turns k [] t zero = omega arith
short_turns k [] t (suc i) = omega arith
short_turns true (run ∷ runs) t i = numeral_front run (concat runs) t.0.1 (other_of_turns true runs t.1) (short_turns false runs t.1) i
short_turns false (run ∷ runs) t i = word_front run (concat runs) (kind_of_run false run t.0).1 (short_turns true runs t.1) i

-- what a component's text is read as
pub record IsPiece (text : List ℕ) (component : List Run) : Type 0 where
  pub value : component_of text ≡ component
  pub some : 0 < length text
  pub short : HasShortRuns text
  pub chars : list_all is_piece_char text ≡ true

some_text : (k : Bool) (runs : List (List ℕ)) → 0 < length runs → TakeTurns k runs → 0 < length (concat runs)
some_text k [] some t = absurd (omega arith)
some_text k ([] ∷ runs) some t = absurd (omega (arith, (kind_of_run k [] t.0).0))
some_text k ((b ∷ bs) ∷ runs) some t = omega arith

pub component_again : (text : List ℕ) (component : List Run) → IsComponent text component → IsPiece text component
component_again text component c =
    let k : Bool = c.digits_first in
    let runs : List (List ℕ) = c.runs in
    let value : component_of (concat runs) ≡ component =
    ap (λ rs. with_zero (begins_with_digit (concat runs)) (map run_of rs)) (runs_again k runs c.turns)
    ∙ ap (λ d. with_zero d (map run_of runs)) (begins_again k runs c.some c.turns)
    ∙ sym c.means in
    subst (λ t. IsPiece t component) (sym c.whole) (record {
      value = value;
      some = some_text k runs c.some c.turns;
      short = record { each = short_turns k runs c.turns };
      chars = chars_of_turns k runs c.turns;
    })
