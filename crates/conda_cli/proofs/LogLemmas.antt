-- The text of a log is ASCII without `?`, so that a log has a text exactly where it has the bytes that the text was made of.
use Rattle.std.proofs.Common.{◌≡◌, ◌⊎◌, inl, inr, ℕ, zero, suc, ◌+◌, ◌-◌, ◌^◌, ◌%◌, ◌<◌, ◌≤◌, Bool, true, cond, ◌&&◌, List, [], ◌∷◌, ◌++◌, drop, get_or, length, lit≤, map, set, take, refl, sym, ap, subst, ◌∙◌, arith}
use Rattle.std.specs.Prelude.{nat_lt, ◌==◌, not, ℤ, pos, negsuc, decimal, flat_map}
use Rattle.std.specs.Fmt.{signed_decimal}
use Rattle.std.specs.List.{list_all}
use Rattle.std.specs.Str.{IsAscii}
use Rattle.std.proofs.lemmas.Bool.{and_from, and_parts, cases_Bool, cond_both, cond-false, cond-true, lt-ltb, ltb-false, ltb-true, ne_eqb, not_from_false, true≢false}
use Rattle.std.proofs.lemmas.Fmt.{decimal_by_steps}
use Rattle.std.proofs.lemmas.List.Folds.{list_all-append}
use Rattle.conda_refute.specs.LogText.{IsFirstBadLine, first_lines, hints_text, input_line, is_hint, is_literal, is_log, is_step, literals_text, log_text, step_line}
use Rattle.conda_refute.specs.declared.log.Log.{Log}
use Rattle.conda_refute.specs.declared.log.RefuteErr.TheVariants as refute_err
use Rattle.conda_refute.specs.declared.log.Step.{Step}
use Rattle.conda_cli.specs.declared.fault.Fault.TheVariants.{BadLog}
use Rattle.conda_cli.specs.Refuting.{IsAlone, IsLineFault, IsTextOf, as_ascii}

-- ASCII, and no `?`
abbrev is_plain : ℕ → Bool
is_plain b = nat_lt b 128 && not (b == 63)

abbrev IsPlain : List ℕ → Type 0
IsPlain text = list_all is_plain text ≡ true

-- ---- the text of a log

plain_append : (xs ys : List ℕ) → IsPlain xs → IsPlain ys → IsPlain (xs ++ ys)
plain_append xs ys h k = list_all-append is_plain xs ys ∙ and_from (list_all is_plain xs) (list_all is_plain ys) h k

plain_digit : (n : ℕ) → n < 10 → IsPlain ((48 + n) ∷ [])
plain_digit n small =
    let low : nat_lt (48 + n) 128 ≡ true = lt-ltb (48 + n) 128 (omega arith) in
    let other : not (48 + n == 63) ≡ true = not_from_false (48 + n == 63) (ne_eqb (48 + n) 63 (λ (e : 48 + n ≡ 63). omega arith)) in
    and_from (is_plain (48 + n)) true (and_from (nat_lt (48 + n) 128) (not (48 + n == 63)) low other) refl

plain_decimal : (n : ℕ) → n < 2 ^ 64 → IsPlain (decimal n)
plain_decimal n h =
    decimal_by_steps (λ n ds. IsPlain ds) plain_digit
    (λ n ds big so_far. plain_append ds ((48 + n % 10) ∷ []) so_far (plain_digit (n % 10) (omega arith))) n h

plain_signed : (z : ℤ) → is_literal z ≡ true → IsPlain (signed_decimal z)
plain_signed (pos n) h =
    let small : n < 2 ^ 31 = ltb-true n (2 ^ 31) (and_parts (nat_lt 0 n) (nat_lt n (2 ^ 31)) h).1 in
    plain_decimal n (omega arith)
plain_signed (negsuc n) h =
    let small : n < 2 ^ 31 = ltb-true n (2 ^ 31) h in
    plain_decimal (suc n) (omega arith)

plain_literals : (ls : List ℤ) → list_all is_literal ls ≡ true → IsPlain (literals_text ls)
plain_literals [] h = refl
plain_literals (l ∷ ls) h =
    let parts = and_parts (is_literal l) (list_all is_literal ls) h in
    plain_append (signed_decimal l) (32 ∷ literals_text ls) (plain_signed l parts.0) (plain_literals ls parts.1)

plain_hints : (hs : List ℕ) → list_all is_hint hs ≡ true → IsPlain (hints_text hs)
plain_hints [] h = refl
plain_hints (n ∷ hs) h =
    let parts = and_parts (is_hint n) (list_all is_hint hs) h in
    let small : n < 2 ^ 64 = ltb-true n (2 ^ 64) (and_parts (nat_lt 0 n) (nat_lt n (2 ^ 64)) parts.0).1 in
    plain_append (decimal n) (32 ∷ hints_text hs) (plain_decimal n small) (plain_hints hs parts.1)

plain_input : (clause : List ℤ) → list_all is_literal clause ≡ true → IsPlain (input_line clause)
plain_input clause h = plain_append (literals_text clause) (10 ∷ []) (plain_literals clause h) refl

plain_step : (step : Step) → is_step step ≡ true → IsPlain (step_line step)
plain_step step h =
    let parts = and_parts (list_all is_literal step.clause) (list_all is_hint step.hints) h in
    plain_append (literals_text step.clause) (32 ∷ (hints_text step.hints ++ 10 ∷ [])) (plain_literals step.clause parts.0)
    (plain_append (hints_text step.hints) (10 ∷ []) (plain_hints step.hints parts.1) refl)

plain_lines : {X : Type 0} (line : X → List ℕ) (test : X → Bool) → ((x : X) → test x ≡ true → IsPlain (line x))
    → (xs : List X) → list_all test xs ≡ true → IsPlain (flat_map line xs)
plain_lines line test each [] h = refl
plain_lines line test each (x ∷ xs) h =
    let parts = and_parts (test x) (list_all test xs) h in
    plain_append (line x) (flat_map line xs) (each x parts.0) (plain_lines line test each xs parts.1)

plain_log : (log : Log) → is_log log ≡ true → IsPlain (log_text log)
plain_log log h =
    let parts = and_parts (list_all (list_all is_literal) log.inputs) (list_all is_step log.steps) h in
    plain_append (flat_map input_line log.inputs) (flat_map step_line log.steps)
    (plain_lines input_line (list_all is_literal) plain_input log.inputs parts.0) (plain_lines step_line is_step plain_step log.steps parts.1)

-- ---- bytes and the text made of them

small_same : (b : ℕ) → nat_lt b 128 ≡ true → as_ascii b ≡ b
small_same b small = cond-true (nat_lt b 128) b 63 small

kept : (b : ℕ) → is_plain (as_ascii b) ≡ true → as_ascii b ≡ b
kept b h =
    elim (cases_Bool (nat_lt b 128)) as (λ _. as_ascii b ≡ b) [
      | inl small ↦ small_same b small
      | inr large ↦ absurd (true≢false (sym h ∙ ap is_plain (cond-false (nat_lt b 128) b 63 large)))
    ]

-- bytes whose text is plain are that text
all_kept : (bs : List ℕ) → IsPlain (map as_ascii bs) → map as_ascii bs ≡ bs
all_kept [] h = refl
all_kept (b ∷ bs) h =
    let parts = and_parts (is_plain (as_ascii b)) (list_all is_plain (map as_ascii bs)) h in
    ap (λ x. x ∷ map as_ascii bs) (kept b parts.0) ∙ ap (λ xs. b ∷ xs) (all_kept bs parts.1)

all_same : (bs : List ℕ) → IsPlain bs → map as_ascii bs ≡ bs
all_same [] h = refl
all_same (b ∷ bs) h =
    let parts = and_parts (is_plain b) (list_all is_plain bs) h in
    let small = and_parts (nat_lt b 128) (not (b == 63)) parts.0 in
    ap (λ x. x ∷ map as_ascii bs) (small_same b small.0) ∙ ap (λ xs. b ∷ xs) (all_same bs parts.1)

newline_same : (b : ℕ) → (as_ascii b == 10) ≡ (b == 10)
newline_same b =
    elim (cases_Bool (nat_lt b 128)) as (λ _. (as_ascii b == 10) ≡ (b == 10)) [
      | inl small ↦ ap (λ x. x == 10) (small_same b small)
      | inr large ↦
          let far : 128 ≤ b = ltb-false b 128 large in
          ap (λ x. x == 10) (cond-false (nat_lt b 128) b 63 large) ∙ sym (ne_eqb b 10 (λ (e : b ≡ 10). omega arith))
    ]

-- every byte of the text is ASCII
byte_small : (b : ℕ) → as_ascii b < 128
byte_small b = cond_both (nat_lt b 128) b 63 (λ x. x < 128) (λ small. ltb-true b 128 small) (λ _. lit≤ tt)

pub ascii_made : (bs : List ℕ) → IsAscii (map as_ascii bs)
ascii_made [] i = lit≤ tt
ascii_made (b ∷ bs) zero = byte_small b
ascii_made (b ∷ bs) (suc i) = ascii_made bs i

ascii_at : (xs : List ℕ) (i : ℕ) → i < length xs
    → (let ys = map as_ascii (take i xs) ++ drop i xs in set ys i (as_ascii (get_or ys i 0))) ≡ map as_ascii (take (suc i) xs) ++ drop (suc i) xs
ascii_at [] i h = absurd (omega arith)
ascii_at (x ∷ xs) zero h = refl
ascii_at (x ∷ xs) (suc i) h = ap (λ ys. as_ascii x ∷ ys) (ascii_at xs i (omega arith))

-- one byte more is changed
pub ascii_more : (xs ys : List ℕ) (i v : ℕ) → ys ≡ map as_ascii (take i xs) ++ drop i xs → i < length xs → v ≡ as_ascii (get_or ys i 0)
    → set ys i v ≡ map as_ascii (take (i + 1) xs) ++ drop (i + 1) xs
ascii_more xs ys i v same short is =
    let one_more : suc i ≡ i + 1 = omega arith in
    ap (λ v. set ys i v) is ∙ ap (λ zs. set zs i (as_ascii (get_or zs i 0))) same ∙ ascii_at xs i short
    ∙ ap (λ n. map as_ascii (take n xs) ++ drop n xs) one_more

-- no newline changes, so the lines are the same
lines_map : (bs : List ℕ) (n : ℕ) → first_lines (map as_ascii bs) n ≡ map as_ascii (first_lines bs n)
lines_map [] n = refl
lines_map (b ∷ bs) zero = refl
lines_map (b ∷ bs) (suc n) =
    ap (λ ends. as_ascii b ∷ first_lines (map as_ascii bs) (cond ends n (suc n))) (newline_same b)
    ∙ ap (λ xs. as_ascii b ∷ xs) (lines_map bs (cond (b == 10) n (suc n)))

-- ---- a log has the text exactly where it has the bytes

text_from : (bytes : List ℕ) (log : Log) → IsTextOf (map as_ascii bytes) log → IsTextOf bytes log
text_from bytes log h = (h.0, h.1 ∙ all_kept bytes (subst IsPlain h.1 (plain_log log h.0)))

text_to : (bytes : List ℕ) (log : Log) → IsTextOf bytes log → IsTextOf (map as_ascii bytes) log
text_to bytes log h = (h.0, h.1 ∙ sym (all_same bytes (subst IsPlain h.1 (plain_log log h.0))))

-- and the first bad line is the same
line_from : (bytes : List ℕ) (line : ℕ) → IsFirstBadLine (map as_ascii bytes) line → IsFirstBadLine bytes line
line_from bytes line h = record {
  before =
      let found = h.before in
      let same = text_from (first_lines bytes (line - 1)) found.0 (found.1, found.2 ∙ lines_map bytes (line - 1)) in
      (found.0, same.0, same.1);
  bad = λ log is has. h.bad log is ((text_to (first_lines bytes line) log (is, has)).1 ∙ sym (lines_map bytes line));
}

-- the log that was read is the bytes'
pub log_found : (bytes text : List ℕ) (log : Log) → text ≡ map as_ascii bytes → log_text log ≡ text → is_log log ≡ true
    → ((other : Log) → is_log other ≡ true → log_text other ≡ text → log ≡ other) → IsTextOf bytes log × IsAlone bytes log
log_found bytes text log same has is only = (
  text_from bytes log (is, has ∙ same),
  λ other of. let to = text_to bytes other of in sym (only other to.0 (to.1 ∙ sym same)),
)

same_line : (a b : ℕ) → refute_err.BadLog a ≡ refute_err.BadLog b → a ≡ b
same_line a b e = cc

line_or_memory : (line : ℕ) → refute_err.BadLog line ≡ refute_err.Memory → ⊥
line_or_memory line e = cc

-- and so is the line that was refused
pub line_found : (bytes text : List ℕ) (line : ℕ) → text ≡ map as_ascii bytes
    → ((refute_err.BadLog line ≡ refute_err.Memory) ⊎ ((at : ℕ) × (refute_err.BadLog line ≡ refute_err.BadLog at) × IsFirstBadLine text at))
    → ((other : Log) → is_log other ≡ true → log_text other ≡ text → refute_err.BadLog line ≡ refute_err.Memory)
    → IsLineFault bytes (BadLog line)
line_found bytes text line same why only =
    elim why as (λ _. IsLineFault bytes (BadLog line)) [
      | inl memory ↦ absurd (line_or_memory line memory)
      | inr first ↦ (
        line,
        λ other of. let to = text_to bytes other of in line_or_memory line (only other to.0 (to.1 ∙ sym same)),
        line_from bytes line (subst (λ t. IsFirstBadLine t line) same (subst (IsFirstBadLine text) (sym (same_line line first.0 first.1)) first.2)),
        refl,
      )
    ]
