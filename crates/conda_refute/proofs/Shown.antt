-- What was read shows the text that it was read from.
use Rattle.std.proofs.Common.{◌≡◌, ℕ, zero, suc, ◌+◌, ◌-◌, ◌*◌, ◌/◌, ◌%◌, ◌^◌, ◌<◌, ◌≤◌, ◌==◌, nat_lt, nat_le, ℤ, Bool, true, false, cond, ◌&&◌, List, [], ◌∷◌, ◌++◌, flat_map, decimal, Option, Some, None, Result, Ok, Err, IfOk, refl, sym, ap, subst, ◌∙◌, arith, append_assoc, append-nil, eqb-true, true≢false}
use Rattle.std.specs.List.{list_all}
use Rattle.std.specs.Fmt.{signed_decimal}
use Rattle.std.proofs.lemmas.Bool.{and_parts, and_from, cond_both, cond-true, cond-false, ne_eqb, leb-true, ltb-true, eqb-false}
use Rattle.std.proofs.lemmas.Fmt.{decimal_step, decimal_digit}
use Rattle.std.proofs.lemmas.Grind.{flat_map-append}
use Rattle.std.proofs.lemmas.List.Folds.{list_all-append}
use Rattle.conda_base.specs.Reads.{Gives}
use Rattle.conda_base.specs.Texts.{is_empty}
use Rattle.conda_refute.specs.Faults.{refute_fault_of}
use Rattle.conda_refute.specs.LogText.{literals_text, hints_text, input_line, step_line, log_text, is_literal, is_hint, is_step, is_log}
use Rattle.conda_refute.specs.Reader.{is_digit, signed, minus, at_line, at_number, after_zero, number_ends, more_digits, in_digits, moved, byte_read, at_end, after_byte, run, start, log_read}
use Rattle.conda_refute.specs.declared.log.Step.{Step}
use Rattle.conda_refute.specs.declared.log.Log.{Log}
use Rattle.conda_refute.specs.declared.log.RefuteErr.{RefuteErr}
use Rattle.conda_refute.specs.declared.reader.Part.{Part}
use Rattle.conda_refute.specs.declared.reader.Part.TheVariants.{Input, Literals, Hints}
use Rattle.conda_refute.specs.declared.reader.Place.{Place}
use Rattle.conda_refute.specs.declared.reader.Place.TheVariants.{Line, Tag, Number, Minus, Digits}
use Rattle.conda_refute.specs.declared.reader.Move.{Move}
use Rattle.conda_refute.specs.declared.reader.Move.TheVariants.{Bad, Begin, To, Literal, Hint, LiteralsEnd, InputEnds, StepEnds}
use Rattle.conda_refute.specs.declared.reader.Reading.{Reading}

-- numbers, each with a space behind it
abbrev pub spaced : List ℤ → List ℕ
spaced ls = flat_map (λ l. signed_decimal l ++ 32 ∷ []) ls

abbrev pub spaced_hints : List ℕ → List ℕ
spaced_hints hs = flat_map (λ h. decimal h ++ 32 ∷ []) hs

abbrev pub letter : Part → List ℕ
letter Input = 105 ∷ []
letter Literals = 100 ∷ []
letter Hints = 100 ∷ 32 ∷ 48 ∷ []

abbrev pub numbers : Part → List ℤ → List ℕ → List ℕ
numbers Input ls hs = 105 ∷ 32 ∷ spaced ls
numbers Literals ls hs = 100 ∷ 32 ∷ spaced ls
numbers Hints ls hs = 100 ∷ 32 ∷ (spaced ls ++ 48 ∷ 32 ∷ spaced_hints hs)

abbrev pub digits_text : Bool → ℕ → List ℕ
digits_text true n = 45 ∷ decimal n
digits_text false n = decimal n

-- the line so far
abbrev pub line_text : Place → List ℤ → List ℕ → List ℕ
line_text Line ls hs = []
line_text (Tag part) ls hs = letter part
line_text (Number part) ls hs = numbers part ls hs
line_text (Minus part) ls hs = numbers part ls hs ++ 45 ∷ []
line_text (Digits part negative n) ls hs = numbers part ls hs ++ digits_text negative n

abbrev pub lines_text : List (List ℤ) → List Step → List ℕ
lines_text inputs steps = flat_map input_line inputs ++ flat_map step_line steps

abbrev pub shown : Reading → List ℕ
shown r = lines_text r.inputs r.steps ++ line_text r.place r.literals r.hints

-- its numbers are literals and hints, and the digits of a number make no more than fits
abbrev pub IsBounded : Place → Type 0
IsBounded Line = Unit {0}
IsBounded (Tag part) = Unit {0}
IsBounded (Number part) = Unit {0}
IsBounded (Minus part) = Unit {0}
IsBounded (Digits part negative n) = n < 2 ^ 64

pub record IsGood (r : Reading) : Type 0 where
  pub inputs : list_all (list_all is_literal) r.inputs ≡ true
  pub steps : list_all is_step r.steps ≡ true
  pub literals : list_all is_literal r.literals ≡ true
  pub hints : list_all is_hint r.hints ≡ true
  pub bounded : IsBounded r.place

-- s is r with the byte b more
pub record Adds (r : Reading) (b : ℕ) (s : Reading) : Type 0 where
  pub text : shown s ≡ shown r ++ b ∷ []
  pub good : IsGood s
  pub line : s.line ≡ cond (b == 10) (r.line + 1) r.line
  pub ends : (b == 10) ≡ true → s.place ≡ Line

abbrev pub AddsTo : Reading → ℕ → Option Reading → Type 0
AddsTo r b None = Unit {0}
AddsTo r b (Some s) = Adds r b s

abbrev AddsBy : Reading → ℕ → Move → Type 0
AddsBy r b m = AddsTo r b (moved r m)

-- the byte is no newline, and the line grows by it
same_line : (b : ℕ) (m n : ℕ) → (b ≡ 10 → ⊥) → n ≡ cond (b == 10) m n
same_line b m n h = sym (cond-false (b == 10) m n (ne_eqb b 10 h))

no_end : (b : ℕ) (p : Place) → (b ≡ 10 → ⊥) → (b == 10) ≡ true → p ≡ Line
no_end b p h e = absurd (h (eqb-true b 10 e))

-- a byte behind what the line has so far
grows : (front line more : List ℕ) (b : ℕ) → more ≡ line ++ b ∷ [] → front ++ more ≡ (front ++ line) ++ b ∷ []
grows front line more b e = ap (λ bs. front ++ bs) e ∙ sym (append_assoc front line (b ∷ []))

spaced_literals : (ls : List ℤ) → literals_text ls ≡ spaced ls ++ 48 ∷ []
spaced_literals [] = refl
spaced_literals (l ∷ ls) =
    ap (λ bs. signed_decimal l ++ 32 ∷ bs) (spaced_literals ls)
    ∙ sym (append_assoc (signed_decimal l ++ 32 ∷ []) (spaced ls) (48 ∷ []) ∙ append_assoc (signed_decimal l) (32 ∷ []) (spaced ls ++ 48 ∷ []))

hints_spaced : (hs : List ℕ) → hints_text hs ≡ spaced_hints hs ++ 48 ∷ []
hints_spaced [] = refl
hints_spaced (h ∷ hs) =
    ap (λ bs. decimal h ++ 32 ∷ bs) (hints_spaced hs)
    ∙ sym (append_assoc (decimal h ++ 32 ∷ []) (spaced_hints hs) (48 ∷ []) ∙ append_assoc (decimal h) (32 ∷ []) (spaced_hints hs ++ 48 ∷ []))

-- a byte that stays in the line
inside : (r : Reading) (place : Place) (ls : List ℤ) (hs : List ℕ) (b : ℕ) → IsGood r → (b ≡ 10 → ⊥) → IsBounded place → list_all is_literal ls ≡ true → list_all is_hint hs ≡ true →
    line_text place ls hs ≡ line_text r.place r.literals r.hints ++ b ∷ [] → Adds r b (record r { place = place; literals = ls; hints = hs })
inside r place ls hs b g ne fits literals hints e = record {
  text = grows (lines_text r.inputs r.steps) (line_text r.place r.literals r.hints) (line_text place ls hs) b e;
  good = record { inputs = g.inputs; steps = g.steps; literals = literals; hints = hints; bounded = fits };
  line = same_line b (r.line + 1) r.line ne;
  ends = no_end b place ne;
}

adds_line : (r : Reading) (b : ℕ) → IsGood (record r { place = Line }) → AddsBy (record r { place = Line }) b (at_line b)
adds_line r b g =
    cond_both (b == 105) (To (Tag Input)) (cond (b == 100) (To (Tag Literals)) Bad) (AddsBy (record r { place = Line }) b)
    (λ h. let e : b ≡ 105 = eqb-true b 105 h in let ne : b ≡ 10 → ⊥ = λ (z : b ≡ 10). omega arith in
    inside (record r { place = Line }) (Tag Input) r.literals r.hints b g ne tt g.literals g.hints (ap (λ x. x ∷ []) (sym e)))
    (λ _. cond_both (b == 100) (To (Tag Literals)) Bad (AddsBy (record r { place = Line }) b)
    (λ h. let e : b ≡ 100 = eqb-true b 100 h in let ne : b ≡ 10 → ⊥ = λ (z : b ≡ 10). omega arith in
    inside (record r { place = Line }) (Tag Literals) r.literals r.hints b g ne tt g.literals g.hints (ap (λ x. x ∷ []) (sym e)))
    (λ _. tt))

begin_text : (part : Part) → numbers part [] [] ≡ letter part ++ 32 ∷ []
begin_text Input = refl
begin_text Literals = refl
begin_text Hints = refl

adds_tag : (part : Part) (r : Reading) (b : ℕ) → IsGood (record r { place = Tag part }) → AddsBy (record r { place = Tag part }) b (cond (b == 32) (Begin part) Bad)
adds_tag part r b g =
    cond_both (b == 32) (Begin part) Bad (AddsBy (record r { place = Tag part }) b)
    (λ h. let e : b ≡ 32 = eqb-true b 32 h in let ne : b ≡ 10 → ⊥ = λ (z : b ≡ 10). omega arith in
    inside (record r { place = Tag part }) (Number part) [] [] b g ne tt refl refl (begin_text part ∙ ap (λ x. letter part ++ x ∷ []) (sym e)))
    (λ _. tt)

digit_low : (b : ℕ) → is_digit b ≡ true → 48 ≤ b
digit_low b h = leb-true 48 b (and_parts (nat_le 48 b) (nat_le b 57) h).0

digit_high : (b : ℕ) → is_digit b ≡ true → b ≤ 57
digit_high b h = leb-true b 57 (and_parts (nat_le 48 b) (nat_le b 57) h).1

digit_text : (b : ℕ) → is_digit b ≡ true → decimal (b - 48) ≡ b ∷ []
digit_text b h =
    let low = digit_low b h in let high = digit_high b h in
    decimal_digit (b - 48) (omega arith) ∙ ap (λ x. x ∷ []) (let e : 48 + (b - 48) ≡ b = omega arith in e)

digit_stays : (b : ℕ) → is_digit b ≡ true → b ≡ 10 → ⊥
digit_stays b h z = let low = digit_low b h in omega arith

digit_fits : (b : ℕ) → is_digit b ≡ true → b - 48 < 2 ^ 64
digit_fits b h = let high = digit_high b h in omega arith

adds_minus : (part : Part) (r : Reading) (b : ℕ) → b ≡ 45 → (b ≡ 10 → ⊥) → IsGood (record r { place = Number part }) → AddsBy (record r { place = Number part }) b (minus part)
adds_minus Input r b e ne g = inside (record r { place = Number Input }) (Minus Input) r.literals r.hints b g ne tt g.literals g.hints (ap (λ x. numbers Input r.literals r.hints ++ x ∷ []) (sym e))
adds_minus Literals r b e ne g = inside (record r { place = Number Literals }) (Minus Literals) r.literals r.hints b g ne tt g.literals g.hints (ap (λ x. numbers Literals r.literals r.hints ++ x ∷ []) (sym e))
adds_minus Hints r b e ne g = tt

adds_number : (part : Part) (r : Reading) (b : ℕ) → IsGood (record r { place = Number part }) → AddsBy (record r { place = Number part }) b (at_number part b)
adds_number part r b g =
    cond_both (is_digit b) (To (Digits part false (b - 48))) (cond (b == 45) (minus part) Bad) (AddsBy (record r { place = Number part }) b)
    (λ h. inside (record r { place = Number part }) (Digits part false (b - 48)) r.literals r.hints b g (digit_stays b h) (digit_fits b h) g.literals g.hints
    (ap (λ x. numbers part r.literals r.hints ++ x) (digit_text b h)))
    (λ _. cond_both (b == 45) (minus part) Bad (AddsBy (record r { place = Number part }) b)
    (λ h. let e : b ≡ 45 = eqb-true b 45 h in let ne : b ≡ 10 → ⊥ = λ (z : b ≡ 10). omega arith in adds_minus part r b e ne g)
    (λ _. tt))

adds_first : (part : Part) (r : Reading) (b : ℕ) → IsGood (record r { place = Minus part }) → AddsBy (record r { place = Minus part }) b (cond (is_digit b) (To (Digits part true (b - 48))) Bad)
adds_first part r b g =
    cond_both (is_digit b) (To (Digits part true (b - 48))) Bad (AddsBy (record r { place = Minus part }) b)
    (λ h. inside (record r { place = Minus part }) (Digits part true (b - 48)) r.literals r.hints b g (digit_stays b h) (digit_fits b h) g.literals g.hints
    (ap (λ x. numbers part r.literals r.hints ++ 45 ∷ x) (digit_text b h) ∙ sym (append_assoc (numbers part r.literals r.hints) (45 ∷ []) (b ∷ []))))
    (λ _. tt)

more_decimal : (n b : ℕ) → (n ≡ 0 → ⊥) → is_digit b ≡ true → n * 10 + (b - 48) < 2 ^ 64 → decimal (n * 10 + (b - 48)) ≡ decimal n ++ b ∷ []
more_decimal n b h digit fits =
    let low = digit_low b digit in let high = digit_high b digit in
    let tens : 10 ≤ n * 10 + (b - 48) = omega arith in
    let quotient : (n * 10 + (b - 48)) / 10 ≡ n = omega arith in
    let rest : 48 + (n * 10 + (b - 48)) % 10 ≡ b = omega arith in
    decimal_step (n * 10 + (b - 48)) tens fits
    ∙ ap (λ m. decimal m ++ (48 + (n * 10 + (b - 48)) % 10) ∷ []) quotient
    ∙ ap (λ x. decimal n ++ x ∷ []) rest

more_text : (negative : Bool) (n b : ℕ) → (n ≡ 0 → ⊥) → is_digit b ≡ true → n * 10 + (b - 48) < 2 ^ 64 → digits_text negative (n * 10 + (b - 48)) ≡ digits_text negative n ++ b ∷ []
more_text true n b h digit fits = ap (λ x. 45 ∷ x) (more_decimal n b h digit fits)
more_text false n b h digit fits = more_decimal n b h digit fits

adds_more : (part : Part) (negative : Bool) (n : ℕ) (r : Reading) (b : ℕ) → (n ≡ 0 → ⊥) → is_digit b ≡ true → IsGood (record r { place = Digits part negative n }) →
    AddsBy (record r { place = Digits part negative n }) b (more_digits part negative (n * 10 + (b - 48)))
adds_more part negative n r b h digit g =
    cond_both (nat_lt (n * 10 + (b - 48)) (2 ^ 64)) (To (Digits part negative (n * 10 + (b - 48)))) Bad (AddsBy (record r { place = Digits part negative n }) b)
    (λ k. let fits : n * 10 + (b - 48) < 2 ^ 64 = ltb-true (n * 10 + (b - 48)) (2 ^ 64) k in
    inside (record r { place = Digits part negative n }) (Digits part negative (n * 10 + (b - 48))) r.literals r.hints b g (digit_stays b digit) fits g.literals g.hints
    (ap (λ x. numbers part r.literals r.hints ++ x) (more_text negative n b h digit fits) ∙ sym (append_assoc (numbers part r.literals r.hints) (digits_text negative n) (b ∷ []))))
    (λ _. tt)

spaced_more : (ls : List ℤ) (l : ℤ) → spaced (ls ++ l ∷ []) ≡ (spaced ls ++ signed_decimal l) ++ 32 ∷ []
spaced_more ls l =
    flat_map-append (λ x. signed_decimal x ++ 32 ∷ []) ls (l ∷ [])
    ∙ ap (λ bs. spaced ls ++ bs) (append-nil (signed_decimal l ++ 32 ∷ []))
    ∙ sym (append_assoc (spaced ls) (signed_decimal l) (32 ∷ []))

hints_more : (hs : List ℕ) (n : ℕ) → spaced_hints (hs ++ n ∷ []) ≡ (spaced_hints hs ++ decimal n) ++ 32 ∷ []
hints_more hs n =
    flat_map-append (λ x. decimal x ++ 32 ∷ []) hs (n ∷ [])
    ∙ ap (λ bs. spaced_hints hs ++ bs) (append-nil (decimal n ++ 32 ∷ []))
    ∙ sym (append_assoc (spaced_hints hs) (decimal n) (32 ∷ []))

signed_text : (negative : Bool) (n : ℕ) → (n ≡ 0 → ⊥) → signed_decimal (signed negative n) ≡ digits_text negative n
signed_text true zero h = absurd (h refl)
signed_text true (suc n) h = refl
signed_text false n h = refl

one_more_literal : (ls : List ℤ) (l : ℤ) → list_all is_literal ls ≡ true → is_literal l ≡ true → list_all is_literal (ls ++ l ∷ []) ≡ true
one_more_literal ls l every is = list_all-append is_literal ls (l ∷ []) ∙ and_from (list_all is_literal ls) (is_literal l && true) every (and_from (is_literal l) true is refl)

one_more_hint : (hs : List ℕ) (n : ℕ) → list_all is_hint hs ≡ true → is_hint n ≡ true → list_all is_hint (hs ++ n ∷ []) ≡ true
one_more_hint hs n every is = list_all-append is_hint hs (n ∷ []) ∙ and_from (list_all is_hint hs) (is_hint n && true) every (and_from (is_hint n) true is refl)

literal_line : (ls : List ℤ) (negative : Bool) (n b : ℕ) → (n ≡ 0 → ⊥) → b ≡ 32 → spaced (ls ++ signed negative n ∷ []) ≡ (spaced ls ++ digits_text negative n) ++ b ∷ []
literal_line ls negative n b h e =
    spaced_more ls (signed negative n) ∙ ap (λ x. (spaced ls ++ x) ++ 32 ∷ []) (signed_text negative n h) ∙ ap (λ x. (spaced ls ++ digits_text negative n) ++ x ∷ []) (sym e)

hint_line : (ls : List ℤ) (hs : List ℕ) (n b : ℕ) → b ≡ 32 → numbers Hints ls (hs ++ n ∷ []) ≡ (numbers Hints ls hs ++ decimal n) ++ b ∷ []
hint_line ls hs n b e =
    ap (λ x. 100 ∷ 32 ∷ (spaced ls ++ 48 ∷ 32 ∷ x)) (hints_more hs n)
    ∙ ap (λ x. 100 ∷ 32 ∷ x)
    (sym (append_assoc (spaced ls ++ 48 ∷ 32 ∷ spaced_hints hs) (decimal n) (32 ∷ []) ∙ append_assoc (spaced ls) (48 ∷ 32 ∷ spaced_hints hs) (decimal n ++ 32 ∷ [])
    ∙ ap (λ x. spaced ls ++ 48 ∷ 32 ∷ x) (sym (append_assoc (spaced_hints hs) (decimal n) (32 ∷ [])))))
    ∙ ap (λ x. (numbers Hints ls hs ++ decimal n) ++ x ∷ []) (sym e)

adds_ends : (part : Part) (negative : Bool) (n : ℕ) (r : Reading) (b : ℕ) → (n ≡ 0 → ⊥) → b ≡ 32 → (b ≡ 10 → ⊥) → IsGood (record r { place = Digits part negative n }) →
    AddsBy (record r { place = Digits part negative n }) b (number_ends part negative n)
adds_ends Input negative n r b h e ne g =
    cond_both (is_literal (signed negative n)) (Literal Input (signed negative n)) Bad (AddsBy (record r { place = Digits Input negative n }) b)
    (λ is. inside (record r { place = Digits Input negative n }) (Number Input) (r.literals ++ signed negative n ∷ []) r.hints b g ne tt
    (one_more_literal r.literals (signed negative n) g.literals is) g.hints (ap (λ x. 105 ∷ 32 ∷ x) (literal_line r.literals negative n b h e)))
    (λ _. tt)
adds_ends Literals negative n r b h e ne g =
    cond_both (is_literal (signed negative n)) (Literal Literals (signed negative n)) Bad (AddsBy (record r { place = Digits Literals negative n }) b)
    (λ is. inside (record r { place = Digits Literals negative n }) (Number Literals) (r.literals ++ signed negative n ∷ []) r.hints b g ne tt
    (one_more_literal r.literals (signed negative n) g.literals is) g.hints (ap (λ x. 100 ∷ 32 ∷ x) (literal_line r.literals negative n b h e)))
    (λ _. tt)
adds_ends Hints true n r b h e ne g = tt
adds_ends Hints false n r b h e ne g =
    cond_both (is_hint n) (Hint n) Bad (AddsBy (record r { place = Digits Hints false n }) b)
    (λ is. inside (record r { place = Digits Hints false n }) (Number Hints) r.literals (r.hints ++ n ∷ []) b g ne tt g.literals
    (one_more_hint r.hints n g.hints is) (hint_line r.literals r.hints n b e))
    (λ _. tt)

-- what a line of an input shows once it ends
input_shown : (inputs : List (List ℤ)) (ls : List ℤ) →
    lines_text (inputs ++ ls ∷ []) [] ++ [] ≡ (lines_text inputs [] ++ ((105 ∷ 32 ∷ spaced ls) ++ 48 ∷ [])) ++ 10 ∷ []
input_shown inputs ls =
    append-nil (lines_text (inputs ++ ls ∷ []) [])
    ∙ append-nil (flat_map input_line (inputs ++ ls ∷ []))
    ∙ flat_map-append input_line inputs (ls ∷ [])
    ∙ ap (λ x. flat_map input_line inputs ++ x) (append-nil (input_line ls))
    ∙ ap (λ x. flat_map input_line inputs ++ 105 ∷ 32 ∷ (x ++ 10 ∷ [])) (spaced_literals ls)
    ∙ sym (append_assoc (flat_map input_line inputs) (105 ∷ 32 ∷ (spaced ls ++ 48 ∷ [])) (10 ∷ []))
    ∙ ap (λ x. (x ++ 105 ∷ 32 ∷ (spaced ls ++ 48 ∷ [])) ++ 10 ∷ []) (sym (append-nil (flat_map input_line inputs)))

step_text : (ls : List ℤ) (hs : List ℕ) → step_line (record { clause = ls; hints = hs }) ≡ ((100 ∷ 32 ∷ (spaced ls ++ 48 ∷ 32 ∷ spaced_hints hs)) ++ 48 ∷ []) ++ 10 ∷ []
step_text ls hs =
    ap (λ x. 100 ∷ 32 ∷ (x ++ 32 ∷ (hints_text hs ++ 10 ∷ []))) (spaced_literals ls)
    ∙ ap (λ x. 100 ∷ 32 ∷ ((spaced ls ++ 48 ∷ []) ++ 32 ∷ (x ++ 10 ∷ []))) (hints_spaced hs)
    ∙ ap (λ x. 100 ∷ 32 ∷ x) (append_assoc (spaced ls) (48 ∷ []) (32 ∷ ((spaced_hints hs ++ 48 ∷ []) ++ 10 ∷ [])))
    ∙ ap (λ x. 100 ∷ 32 ∷ x)
    (sym (append_assoc (spaced ls ++ 48 ∷ 32 ∷ spaced_hints hs) (48 ∷ []) (10 ∷ []) ∙ append_assoc (spaced ls) (48 ∷ 32 ∷ spaced_hints hs) (48 ∷ 10 ∷ [])
    ∙ ap (λ x. spaced ls ++ 48 ∷ 32 ∷ x) (sym (append_assoc (spaced_hints hs) (48 ∷ []) (10 ∷ [])))))

step_shown : (inputs : List (List ℤ)) (steps : List Step) (ls : List ℤ) (hs : List ℕ) →
    lines_text inputs (steps ++ record { clause = ls; hints = hs } ∷ []) ++ [] ≡ (lines_text inputs steps ++ ((100 ∷ 32 ∷ (spaced ls ++ 48 ∷ 32 ∷ spaced_hints hs)) ++ 48 ∷ [])) ++ 10 ∷ []
step_shown inputs steps ls hs =
    append-nil (lines_text inputs (steps ++ record { clause = ls; hints = hs } ∷ []))
    ∙ ap (λ x. flat_map input_line inputs ++ x) (flat_map-append step_line steps (record { clause = ls; hints = hs } ∷ []))
    ∙ ap (λ x. flat_map input_line inputs ++ (flat_map step_line steps ++ x)) (append-nil (step_line (record { clause = ls; hints = hs })) ∙ step_text ls hs)
    ∙ sym (append_assoc (flat_map input_line inputs) (flat_map step_line steps) (((100 ∷ 32 ∷ (spaced ls ++ 48 ∷ 32 ∷ spaced_hints hs)) ++ 48 ∷ []) ++ 10 ∷ []))
    ∙ sym (append_assoc (lines_text inputs steps) ((100 ∷ 32 ∷ (spaced ls ++ 48 ∷ 32 ∷ spaced_hints hs)) ++ 48 ∷ []) (10 ∷ []))

new_line : (b : ℕ) (m n : ℕ) → (b == 10) ≡ true → m ≡ cond (b == 10) m n
new_line b m n h = sym (cond-true (b == 10) m n h)

none_is : (steps : List Step) → is_empty steps ≡ true → steps ≡ []
none_is [] h = refl
none_is (s ∷ ss) h = absurd (true≢false (sym h))

one_more_input : (inputs : List (List ℤ)) (ls : List ℤ) → list_all (list_all is_literal) inputs ≡ true → list_all is_literal ls ≡ true → list_all (list_all is_literal) (inputs ++ ls ∷ []) ≡ true
one_more_input inputs ls every is =
    list_all-append (list_all is_literal) inputs (ls ∷ []) ∙ and_from (list_all (list_all is_literal) inputs) (list_all is_literal ls && true) every (and_from (list_all is_literal ls) true is refl)

one_more_step : (steps : List Step) (s : Step) → list_all is_step steps ≡ true → is_step s ≡ true → list_all is_step (steps ++ s ∷ []) ≡ true
one_more_step steps s every is =
    list_all-append is_step steps (s ∷ []) ∙ and_from (list_all is_step steps) (is_step s && true) every (and_from (is_step s) true is refl)

zero_at : (n : ℕ) → (n == 0) ≡ true → n ≡ 0
zero_at n h = eqb-true n 0 h

zero_place : (front numbers_so_far : List ℕ) (n b c : ℕ) → n ≡ 0 → b ≡ c → (front ++ (numbers_so_far ++ decimal n)) ++ b ∷ [] ≡ (front ++ (numbers_so_far ++ 48 ∷ [])) ++ c ∷ []
zero_place front so_far n b c z e =
    ap (λ m. (front ++ (so_far ++ decimal m)) ++ b ∷ []) z
    ∙ ap (λ x. (front ++ (so_far ++ x)) ++ b ∷ []) (decimal_digit 0 (omega arith))
    ∙ ap (λ x. (front ++ (so_far ++ 48 ∷ [])) ++ x ∷ []) e

input_ends : (n : ℕ) (r : Reading) (b : ℕ) → n ≡ 0 → (b == 10) ≡ true → is_empty r.steps ≡ true → IsGood (record r { place = Digits Input false n }) →
    AddsBy (record r { place = Digits Input false n }) b InputEnds
input_ends n r b z newline none g = record {
  text =
      ap (λ ss. lines_text (r.inputs ++ r.literals ∷ []) ss ++ []) (none_is r.steps none)
      ∙ input_shown r.inputs r.literals
      ∙ ap (λ ss. (lines_text r.inputs ss ++ ((105 ∷ 32 ∷ spaced r.literals) ++ 48 ∷ [])) ++ 10 ∷ []) (sym (none_is r.steps none))
      ∙ sym (zero_place (lines_text r.inputs r.steps) (105 ∷ 32 ∷ spaced r.literals) n b 10 z (eqb-true b 10 newline));
  good = record { inputs = one_more_input r.inputs r.literals g.inputs g.literals; steps = g.steps; literals = refl; hints = refl; bounded = tt };
  line = new_line b (r.line + 1) r.line newline;
  ends = λ _. refl;
}

step_ends : (n : ℕ) (r : Reading) (b : ℕ) → n ≡ 0 → (b == 10) ≡ true → IsGood (record r { place = Digits Hints false n }) →
    AddsBy (record r { place = Digits Hints false n }) b StepEnds
step_ends n r b z newline g = record {
  text =
      step_shown r.inputs r.steps r.literals r.hints
      ∙ sym (zero_place (lines_text r.inputs r.steps) (100 ∷ 32 ∷ (spaced r.literals ++ 48 ∷ 32 ∷ spaced_hints r.hints)) n b 10 z (eqb-true b 10 newline));
  good = record {
    inputs = g.inputs;
    steps = one_more_step r.steps (record { clause = r.literals; hints = r.hints }) g.steps (and_from (list_all is_literal r.literals) (list_all is_hint r.hints) g.literals g.hints);
    literals = refl;
    hints = refl;
    bounded = tt;
  };
  line = new_line b (r.line + 1) r.line newline;
  ends = λ _. refl;
}

literals_end : (n : ℕ) (r : Reading) (b : ℕ) → n ≡ 0 → b ≡ 32 → (b ≡ 10 → ⊥) → IsGood (record r { place = Digits Literals false n }) →
    AddsBy (record r { place = Digits Literals false n }) b LiteralsEnd
literals_end n r b z e ne g =
    inside (record r { place = Digits Literals false n }) (Number Hints) r.literals [] b g ne tt g.literals refl
    (ap (λ x. 100 ∷ 32 ∷ x) (sym (append_assoc (spaced r.literals) (48 ∷ []) (32 ∷ [])))
    ∙ sym (ap (λ m. (100 ∷ 32 ∷ (spaced r.literals ++ decimal m)) ++ b ∷ []) z
    ∙ ap (λ x. (100 ∷ 32 ∷ (spaced r.literals ++ x)) ++ b ∷ []) (decimal_digit 0 (omega arith))
    ∙ ap (λ x. (100 ∷ 32 ∷ (spaced r.literals ++ 48 ∷ [])) ++ x ∷ []) e))

adds_zero : (part : Part) (negative : Bool) (n : ℕ) (r : Reading) (b : ℕ) → n ≡ 0 → IsGood (record r { place = Digits part negative n }) →
    AddsBy (record r { place = Digits part negative n }) b (after_zero part negative (is_empty r.steps) b)
adds_zero Input true n r b z g = tt
adds_zero Literals true n r b z g = tt
adds_zero Hints true n r b z g = tt
adds_zero Input false n r b z g =
    cond_both (b == 10 && is_empty r.steps) InputEnds Bad (AddsBy (record r { place = Digits Input false n }) b)
    (λ h. let parts = and_parts (b == 10) (is_empty r.steps) h in input_ends n r b z parts.0 parts.1 g)
    (λ _. tt)
adds_zero Literals false n r b z g =
    cond_both (b == 32) LiteralsEnd Bad (AddsBy (record r { place = Digits Literals false n }) b)
    (λ h. let e : b ≡ 32 = eqb-true b 32 h in let ne : b ≡ 10 → ⊥ = λ (y : b ≡ 10). omega arith in literals_end n r b z e ne g)
    (λ _. tt)
adds_zero Hints false n r b z g =
    cond_both (b == 10) StepEnds Bad (AddsBy (record r { place = Digits Hints false n }) b)
    (λ h. step_ends n r b z h g)
    (λ _. tt)

adds_digits : (part : Part) (negative : Bool) (n : ℕ) (r : Reading) (b : ℕ) → IsGood (record r { place = Digits part negative n }) →
    AddsBy (record r { place = Digits part negative n }) b (in_digits part negative n (is_empty r.steps) b)
adds_digits part negative n r b g =
    cond_both (n == 0) (after_zero part negative (is_empty r.steps) b) (cond (is_digit b) (more_digits part negative (n * 10 + (b - 48))) (cond (b == 32) (number_ends part negative n) Bad))
    (AddsBy (record r { place = Digits part negative n }) b)
    (λ h. adds_zero part negative n r b (zero_at n h) g)
    (λ h. cond_both (is_digit b) (more_digits part negative (n * 10 + (b - 48))) (cond (b == 32) (number_ends part negative n) Bad) (AddsBy (record r { place = Digits part negative n }) b)
    (λ digit. adds_more part negative n r b (eqb-false n 0 h) digit g)
    (λ _. cond_both (b == 32) (number_ends part negative n) Bad (AddsBy (record r { place = Digits part negative n }) b)
    (λ k. let e : b ≡ 32 = eqb-true b 32 k in let ne : b ≡ 10 → ⊥ = λ (y : b ≡ 10). omega arith in adds_ends part negative n r b (eqb-false n 0 h) e ne g)
    (λ _. tt)))

adds_at : (place : Place) (r : Reading) (b : ℕ) → IsGood (record r { place = place }) → AddsTo (record r { place = place }) b (byte_read (record r { place = place }) b)
adds_at Line r b g = adds_line r b g
adds_at (Tag part) r b g = adds_tag part r b g
adds_at (Number part) r b g = adds_number part r b g
adds_at (Minus part) r b g = adds_first part r b g
adds_at (Digits part negative n) r b g = adds_digits part negative n r b g

pub adds : (r : Reading) (b : ℕ) → IsGood r → AddsTo r b (byte_read r b)
adds r b g = adds_at r.place r b g

-- a log that was read
pub record Read (text : List ℕ) (log : Log) : Type 0 where
  pub shows : log_text log ≡ text
  pub numbers : is_log log ≡ true

end_shown : (place : Place) (r : Reading) (log : Log) → IsGood r → ◌≡◌ {A = Result Log RefuteErr} (at_end place r) (Ok log) → Read (lines_text r.inputs r.steps ++ line_text place r.literals r.hints ++ []) log
end_shown Line r log g h =
    let e : ◌≡◌ {A = Log} (record { inputs = r.inputs; steps = r.steps }) log = cc in
    subst (Read (lines_text r.inputs r.steps ++ [] ++ [])) e
    (record {
      shows = sym (append-nil (lines_text r.inputs r.steps ++ []) ∙ append-nil (lines_text r.inputs r.steps));
      numbers = and_from (list_all (list_all is_literal) r.inputs) (list_all is_step r.steps) g.inputs g.steps;
    })
end_shown (Tag part) r log g h = cc
end_shown (Number part) r log g h = cc
end_shown (Minus part) r log g h = cc
end_shown (Digits part negative n) r log g h = cc

shown_after : (r : Reading) (b : ℕ) (bs : List ℕ) (o : Option Reading) (log : Log) → AddsTo r b o → ((s : Reading) → IsGood s → run bs s ≡ Ok log → Read (shown s ++ bs) log) → after_byte (run bs) r.line o ≡ Ok log → Read (shown r ++ b ∷ bs) log
shown_after r b bs None log a later h = cc
shown_after r b bs (Some s) log a later h =
    subst (λ text. Read text log) (ap (λ x. x ++ bs) a.text ∙ append_assoc (shown r) (b ∷ []) bs) (later s a.good h)

pub run_shown : (bs : List ℕ) (r : Reading) (log : Log) → IsGood r → run bs r ≡ Ok log → Read (shown r ++ bs) log
run_shown [] r log g h = end_shown r.place r log g h
run_shown (b ∷ bs) r log g h = shown_after r b bs (byte_read r b) log (adds r b g) (λ s k e. run_shown bs s log k e) h

pub start_good : IsGood start
start_good = record { inputs = refl; steps = refl; literals = refl; hints = refl; bounded = tt }

pub read_shown : (text : List ℕ) (log : Log) → run text start ≡ Ok log → Read text log
read_shown text log h = run_shown text start log start_good h

-- so does what a reader answers
pub answer_shown : (text : List ℕ) (r : Result Log RefuteErr) → Gives refute_fault_of r (log_read text) → IfOk r (λ log. Read text log)
answer_shown text (Ok log) h = read_shown text log h
answer_shown text (Err e) h = tt
