-- The text of a log is read as that log.
use Rattle.std.proofs.Common.{◌≡◌, ℕ, suc, ◌+◌, ◌-◌, ◌*◌, ◌/◌, ◌%◌, ◌^◌, ◌<◌, ◌≤◌, ◌==◌, nat_lt, nat_le, ℤ, pos, negsuc, Bool, true, false, cond, List, [], ◌∷◌, ◌++◌, flat_map, decimal, Result, Ok, Err, MatchResult, IfSome, refl, sym, ap, ◌∙◌, arith, append_assoc, append-nil}
use Rattle.std.specs.List.{list_all}
use Rattle.std.specs.Fmt.{signed_decimal}
use Rattle.std.proofs.lemmas.Bool.{and_parts, and_from, cond-true, cond-false, le-leb, ne_eqb, lt-ltb, ltb-true}
use Rattle.std.proofs.lemmas.Fmt.{decimal_by_steps}
use Rattle.conda_base.specs.Reads.{Gives}
use Rattle.conda_base.specs.Texts.{is_empty}
use Rattle.conda_refute.specs.Faults.{refute_fault_of}
use Rattle.conda_refute.specs.LogText.{literals_text, hints_text, input_line, step_line, log_text, is_literal, is_hint, is_step, is_log}
use Rattle.conda_refute.specs.Reader.{is_digit, signed, minus, after_zero, number_ends, more_digits, in_digits, move_of, moved, after_byte, run, start, log_read}
use Rattle.conda_refute.specs.declared.log.Step.{Step}
use Rattle.conda_refute.specs.declared.log.Log.{Log}
use Rattle.conda_refute.specs.declared.log.RefuteErr.{RefuteErr}
use Rattle.conda_refute.specs.declared.log.RefuteErr.TheVariants.{BadLog, Memory}
use Rattle.conda_refute.specs.declared.reader.Part.{Part}
use Rattle.conda_refute.specs.declared.reader.Part.TheVariants.{Input, Literals, Hints}
use Rattle.conda_refute.specs.declared.reader.Place.{Place}
use Rattle.conda_refute.specs.declared.reader.Place.TheVariants.{Line, Number, Minus, Digits}
use Rattle.conda_refute.specs.declared.reader.Move.{Move}
use Rattle.conda_refute.specs.declared.reader.Move.TheVariants.{Bad, To, Literal, Hint}
use Rattle.conda_refute.specs.declared.reader.Reading.{Reading}

by_move : (r : Reading) (b : ℕ) (bs : List ℕ) (m : Move) → move_of r.place (is_empty r.steps) b ≡ m → run (b ∷ bs) r ≡ after_byte (run bs) r.line (moved r m)
by_move r b bs m e = ap (λ n. after_byte (run bs) r.line (moved r n)) e

digit_is : (d : ℕ) → d < 10 → is_digit (48 + d) ≡ true
digit_is d h = and_from (nat_le 48 (48 + d)) (nat_le (48 + d) 57) (le-leb 48 (48 + d) (omega arith)) (le-leb (48 + d) 57 (omega arith))

-- a number's digits, from a place where a number begins
Reads : Part → Bool → Place → Reading → ℕ → List ℕ → Type 0
Reads part negative opens r n ds = n < 2 ^ 64 → (rest : List ℕ) → run (ds ++ rest) (record r { place = opens }) ≡ run rest (record r { place = Digits part negative n })

Opens : Part → Bool → Place → Type 0
Opens part negative opens = (none : Bool) (d : ℕ) → d < 10 → move_of opens none (48 + d) ≡ To (Digits part negative d)

one_digit : (part : Part) (negative : Bool) (opens : Place) (r : Reading) → Opens part negative opens → (n : ℕ) → n < 10 → Reads part negative opens r n ((48 + n) ∷ [])
unfolding Reads Opens
one_digit part negative opens r o n h _ rest = by_move (record r { place = opens }) (48 + n) rest (To (Digits part negative n)) (o (is_empty r.steps) n h)

next_digit : (part : Part) (negative none : Bool) (n d : ℕ) → (n ≡ 0 → ⊥) → d < 10 → n * 10 + d < 2 ^ 64 → in_digits part negative n none (48 + d) ≡ To (Digits part negative (n * 10 + d))
next_digit part negative none n d h k fits =
    cond-false (n == 0) (after_zero part negative none (48 + d)) _ (ne_eqb n 0 h)
    ∙ cond-true (is_digit (48 + d)) (more_digits part negative (n * 10 + (48 + d - 48))) _ (digit_is d k)
    ∙ ap (λ m. more_digits part negative (n * 10 + m)) (let e : 48 + d - 48 ≡ d = omega arith in e)
    ∙ cond-true (nat_lt (n * 10 + d) (2 ^ 64)) (To (Digits part negative (n * 10 + d))) Bad (lt-ltb (n * 10 + d) (2 ^ 64) fits)

more_digit : (part : Part) (negative : Bool) (opens : Place) (r : Reading) (n : ℕ) (ds : List ℕ) → 10 ≤ n → Reads part negative opens r (n / 10) ds → Reads part negative opens r n (ds ++ ((48 + n % 10) ∷ []))
unfolding Reads
more_digit part negative opens r n ds h before small rest =
    let whole : n / 10 * 10 + n % 10 ≡ n = omega arith in
    let nonzero : n / 10 ≡ 0 → ⊥ = λ (z : n / 10 ≡ 0). omega arith in
    let short : n / 10 < 2 ^ 64 = omega arith in
    let digit : n % 10 < 10 = omega arith in
    let fits : n / 10 * 10 + n % 10 < 2 ^ 64 = omega arith in
    ap (λ bs. run bs (record r { place = opens })) (append_assoc ds ((48 + n % 10) ∷ []) rest)
    ∙ before short ((48 + n % 10) ∷ rest)
    ∙ by_move (record r { place = Digits part negative (n / 10) }) (48 + n % 10) rest (To (Digits part negative (n / 10 * 10 + n % 10)))
    (next_digit part negative (is_empty r.steps) (n / 10) (n % 10) nonzero digit fits)
    ∙ ap (λ m. run rest (record r { place = Digits part negative m })) whole

read_digits : (part : Part) (negative : Bool) (opens : Place) (r : Reading) → ((none : Bool) (d : ℕ) → d < 10 → move_of opens none (48 + d) ≡ To (Digits part negative d)) → (n : ℕ) → n < 2 ^ 64 → (rest : List ℕ) →
    run (decimal n ++ rest) (record r { place = opens }) ≡ run rest (record r { place = Digits part negative n })
unfolding Reads Opens
read_digits part negative opens r o n h rest =
    decimal_by_steps (Reads part negative opens r) (one_digit part negative opens r o) (more_digit part negative opens r) n h h rest

at_number_opens : (part : Part) (none : Bool) (d : ℕ) → d < 10 → move_of (Number part) none (48 + d) ≡ To (Digits part false d)
at_number_opens part none d h =
    cond-true (is_digit (48 + d)) (To (Digits part false (48 + d - 48))) _ (digit_is d h)
    ∙ ap (λ m. To (Digits part false m)) (let e : 48 + d - 48 ≡ d = omega arith in e)

at_minus_opens : (part : Part) (none : Bool) (d : ℕ) → d < 10 → move_of (Minus part) none (48 + d) ≡ To (Digits part true d)
at_minus_opens part none d h =
    cond-true (is_digit (48 + d)) (To (Digits part true (48 + d - 48))) _ (digit_is d h)
    ∙ ap (λ m. To (Digits part true m)) (let e : 48 + d - 48 ≡ d = omega arith in e)

-- a space behind a number that isn't 0
space_ends : (part : Part) (negative none : Bool) (n : ℕ) → (n ≡ 0 → ⊥) → in_digits part negative n none 32 ≡ number_ends part negative n
space_ends part negative none n h = cond-false (n == 0) (after_zero part negative none 32) (number_ends part negative n) (ne_eqb n 0 h)

-- a part that holds literals
pub record HoldsLiterals (part : Part) : Type 0 where
  pub ends : (negative : Bool) (n : ℕ) → number_ends part negative n ≡ cond (is_literal (signed negative n)) (Literal part (signed negative n)) Bad
  pub signs : minus part ≡ To (Minus part)

inputs_hold : HoldsLiterals Input
inputs_hold = record { ends = λ negative n. refl; signs = refl }

steps_hold : HoldsLiterals Literals
steps_hold = record { ends = λ negative n. refl; signs = refl }

ends_literal : (part : Part) → HoldsLiterals part → (negative none : Bool) (n : ℕ) → (n ≡ 0 → ⊥) → is_literal (signed negative n) ≡ true → in_digits part negative n none 32 ≡ Literal part (signed negative n)
ends_literal part holds negative none n h is =
    space_ends part negative none n h ∙ holds.ends negative n ∙ cond-true (is_literal (signed negative n)) (Literal part (signed negative n)) Bad is

read_literal : (part : Part) → HoldsLiterals part → (r : Reading) (ls : List ℤ) (l : ℤ) → is_literal l ≡ true → (rest : List ℕ) →
    run (signed_decimal l ++ 32 ∷ rest) (record r { place = Number part; literals = ls }) ≡ run rest (record r { place = Number part; literals = ls ++ l ∷ [] })
read_literal part holds r ls (pos n) is rest =
    let parts = and_parts (nat_lt 0 n) (nat_lt n (2 ^ 31)) is in
    let low : 0 < n = ltb-true 0 n parts.0 in
    let high : n < 2 ^ 31 = ltb-true n (2 ^ 31) parts.1 in
    let nonzero : n ≡ 0 → ⊥ = λ (z : n ≡ 0). omega arith in
    let short : n < 2 ^ 64 = omega arith in
    read_digits part false (Number part) (record r { literals = ls }) (at_number_opens part) n short (32 ∷ rest)
    ∙ by_move (record r { place = Digits part false n; literals = ls }) 32 rest (Literal part (pos n)) (ends_literal part holds false (is_empty r.steps) n nonzero is)
read_literal part holds r ls (negsuc n) is rest =
    let high : n < 2 ^ 31 = ltb-true n (2 ^ 31) is in
    let nonzero : suc n ≡ 0 → ⊥ = λ (z : suc n ≡ 0). omega arith in
    let short : suc n < 2 ^ 64 = omega arith in
    by_move (record r { place = Number part; literals = ls }) 45 (decimal (suc n) ++ 32 ∷ rest) (To (Minus part)) holds.signs
    ∙ read_digits part true (Minus part) (record r { literals = ls }) (at_minus_opens part) (suc n) short (32 ∷ rest)
    ∙ by_move (record r { place = Digits part true (suc n); literals = ls }) 32 rest (Literal part (negsuc n)) (ends_literal part holds true (is_empty r.steps) (suc n) nonzero is)

read_literals : (part : Part) → HoldsLiterals part → (r : Reading) (acc ls : List ℤ) → list_all is_literal ls ≡ true → (rest : List ℕ) →
    run (literals_text ls ++ rest) (record r { place = Number part; literals = acc }) ≡ run rest (record r { place = Digits part false 0; literals = acc ++ ls })
read_literals part holds r acc [] is rest =
    by_move (record r { place = Number part; literals = acc }) 48 rest (To (Digits part false 0)) (at_number_opens part (is_empty r.steps) 0 (omega arith))
    ∙ ap (λ ls. run rest (record r { place = Digits part false 0; literals = ls })) (sym (append-nil acc))
read_literals part holds r acc (l ∷ ls) is rest =
    let parts = and_parts (is_literal l) (list_all is_literal ls) is in
    ap (λ bs. run bs (record r { place = Number part; literals = acc })) (append_assoc (signed_decimal l) (32 ∷ literals_text ls) rest)
    ∙ read_literal part holds r acc l parts.0 (literals_text ls ++ rest)
    ∙ read_literals part holds r (acc ++ l ∷ []) ls parts.1 rest
    ∙ ap (λ xs. run rest (record r { place = Digits part false 0; literals = xs })) (append_assoc acc (l ∷ []) ls)

read_hint : (r : Reading) (hs : List ℕ) (n : ℕ) → is_hint n ≡ true → (rest : List ℕ) →
    run (decimal n ++ 32 ∷ rest) (record r { place = Number Hints; hints = hs }) ≡ run rest (record r { place = Number Hints; hints = hs ++ n ∷ [] })
read_hint r hs n is rest =
    let parts = and_parts (nat_lt 0 n) (nat_lt n (2 ^ 64)) is in
    let low : 0 < n = ltb-true 0 n parts.0 in
    let high : n < 2 ^ 64 = ltb-true n (2 ^ 64) parts.1 in
    let nonzero : n ≡ 0 → ⊥ = λ (z : n ≡ 0). omega arith in
    read_digits Hints false (Number Hints) (record r { hints = hs }) (at_number_opens Hints) n high (32 ∷ rest)
    ∙ by_move (record r { place = Digits Hints false n; hints = hs }) 32 rest (Hint n) (space_ends Hints false (is_empty r.steps) n nonzero ∙ cond-true (is_hint n) (Hint n) Bad is)

read_hints : (r : Reading) (acc hs : List ℕ) → list_all is_hint hs ≡ true → (rest : List ℕ) →
    run (hints_text hs ++ rest) (record r { place = Number Hints; hints = acc }) ≡ run rest (record r { place = Digits Hints false 0; hints = acc ++ hs })
read_hints r acc [] is rest =
    by_move (record r { place = Number Hints; hints = acc }) 48 rest (To (Digits Hints false 0)) (at_number_opens Hints (is_empty r.steps) 0 (omega arith))
    ∙ ap (λ ls. run rest (record r { place = Digits Hints false 0; hints = ls })) (sym (append-nil acc))
read_hints r acc (h ∷ hs) is rest =
    let parts = and_parts (is_hint h) (list_all is_hint hs) is in
    ap (λ bs. run bs (record r { place = Number Hints; hints = acc })) (append_assoc (decimal h) (32 ∷ hints_text hs) rest)
    ∙ read_hint r acc h parts.0 (hints_text hs ++ rest)
    ∙ read_hints r (acc ++ h ∷ []) hs parts.1 rest
    ∙ ap (λ xs. run rest (record r { place = Digits Hints false 0; hints = xs })) (append_assoc acc (h ∷ []) hs)

-- where a line begins, behind these inputs and steps
at_line_of : ℕ → List (List ℤ) → List Step → Reading
at_line_of line inputs steps = record { place = Line; line = line; literals = []; hints = []; inputs = inputs; steps = steps }

read_input : (line : ℕ) (inputs : List (List ℤ)) (c : List ℤ) → list_all is_literal c ≡ true → (rest : List ℕ) →
    run (input_line c ++ rest) (at_line_of line inputs []) ≡ run rest (at_line_of (line + 1) (inputs ++ c ∷ []) [])
unfolding at_line_of
read_input line inputs c is rest =
    ap (λ bs. run bs (record { place = Number Input; line = line; literals = []; hints = []; inputs = inputs; steps = [] })) (append_assoc (literals_text c) (10 ∷ []) rest)
    ∙ read_literals Input inputs_hold (record { place = Number Input; line = line; literals = []; hints = []; inputs = inputs; steps = [] }) [] c is (10 ∷ rest)

read_step : (line : ℕ) (inputs : List (List ℤ)) (steps : List Step) (s : Step) → is_step s ≡ true → (rest : List ℕ) →
    run (step_line s ++ rest) (at_line_of line inputs steps) ≡ run rest (at_line_of (line + 1) inputs (steps ++ s ∷ []))
unfolding at_line_of
read_step line inputs steps s is rest =
    let parts = and_parts (list_all is_literal s.clause) (list_all is_hint s.hints) is in
    ap (λ bs. run bs (record { place = Number Literals; line = line; literals = []; hints = []; inputs = inputs; steps = steps }))
    (append_assoc (literals_text s.clause) (32 ∷ (hints_text s.hints ++ 10 ∷ [])) rest)
    ∙ read_literals Literals steps_hold (record { place = Number Literals; line = line; literals = []; hints = []; inputs = inputs; steps = steps }) [] s.clause parts.0 (32 ∷ (hints_text s.hints ++ 10 ∷ []) ++ rest)
    ∙ ap (λ bs. run bs (record { place = Number Hints; line = line; literals = s.clause; hints = []; inputs = inputs; steps = steps })) (append_assoc (hints_text s.hints) (10 ∷ []) rest)
    ∙ read_hints (record { place = Number Hints; line = line; literals = s.clause; hints = []; inputs = inputs; steps = steps }) [] s.hints parts.1 (10 ∷ rest)

read_inputs : (line : ℕ) (inputs more : List (List ℤ)) → list_all (list_all is_literal) more ≡ true → (rest : List ℕ) →
    (end : ℕ) × (run (flat_map input_line more ++ rest) (at_line_of line inputs []) ≡ run rest (at_line_of end (inputs ++ more) []))
read_inputs line inputs [] is rest = (line, ap (λ cs. run rest (at_line_of line cs [])) (sym (append-nil inputs)))
read_inputs line inputs (c ∷ more) is rest =
    let parts = and_parts (list_all is_literal c) (list_all (list_all is_literal) more) is in
    let later = read_inputs (line + 1) (inputs ++ c ∷ []) more parts.1 rest in (
      later.0,
      ap (λ bs. run bs (at_line_of line inputs [])) (append_assoc (input_line c) (flat_map input_line more) rest)
          ∙ read_input line inputs c parts.0 (flat_map input_line more ++ rest)
          ∙ later.1
          ∙ ap (λ cs. run rest (at_line_of later.0 cs [])) (append_assoc inputs (c ∷ []) more),
    )

read_steps : (line : ℕ) (inputs : List (List ℤ)) (steps more : List Step) → list_all is_step more ≡ true →
    (end : ℕ) × (run (flat_map step_line more) (at_line_of line inputs steps) ≡ run [] (at_line_of end inputs (steps ++ more)))
read_steps line inputs steps [] is = (line, ap (λ ss. run [] (at_line_of line inputs ss)) (sym (append-nil steps)))
read_steps line inputs steps (s ∷ more) is =
    let parts = and_parts (is_step s) (list_all is_step more) is in
    let later = read_steps (line + 1) inputs (steps ++ s ∷ []) more parts.1 in (
      later.0,
      read_step line inputs steps s parts.0 (flat_map step_line more)
          ∙ later.1
          ∙ ap (λ ss. run [] (at_line_of later.0 inputs ss)) (append_assoc steps (s ∷ []) more),
    )

pub read_back : (log : Log) → is_log log ≡ true → run (log_text log) start ≡ Ok log
unfolding at_line_of
read_back log is =
    let parts = and_parts (list_all (list_all is_literal) log.inputs) (list_all is_step log.steps) is in
    let inputs = read_inputs 1 [] log.inputs parts.0 (flat_map step_line log.steps) in
    let steps = read_steps inputs.0 log.inputs [] log.steps parts.1 in
    inputs.1 ∙ steps.1

-- the log that was read is the only one with this text
pub only_one : (text : List ℕ) (log other : Log) → run text start ≡ Ok log → is_log other ≡ true → log_text other ≡ text → other ≡ log
only_one text log other h is same =
    let e : ◌≡◌ {A = Result Log RefuteErr} (Ok other) (Ok log) = sym (read_back other is) ∙ ap (λ bs. run bs start) same ∙ h in cc

only_memory : (e : RefuteErr) (text : List ℕ) (log : Log) → IfSome (refute_fault_of e) (λ fault. log_read text ≡ Err fault) → run text start ≡ Ok log → e ≡ RefuteErr.Memory
only_memory (RefuteErr.Bad step) text log h read = cc
only_memory (BadLog line) text log h read = cc
only_memory Memory text log h read = refl

-- what a reader answers, for a text that is a log's
pub only_answer : (text : List ℕ) (r : Result Log RefuteErr) (log : Log) → Gives refute_fault_of r (log_read text) → is_log log ≡ true → log_text log ≡ text →
    MatchResult r (λ found. found ≡ log) (λ e. e ≡ RefuteErr.Memory)
only_answer text (Ok found) log h is same = sym (only_one text found log h is same)
only_answer text (Err e) log h is same = only_memory e text log h (ap (λ bs. run bs start) (sym same) ∙ read_back log is)

-- two logs with one text are one
pub same_text : (log other : Log) (text : List ℕ) → is_log log ≡ true → text ≡ log_text log → is_log other ≡ true → log_text other ≡ text → other ≡ log
same_text log other text is e other_is same = only_one text log other (ap (λ bs. run bs start) e ∙ read_back log is) other_is same
