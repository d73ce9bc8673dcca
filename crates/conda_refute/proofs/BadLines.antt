-- Where a text is refused, the lines before are a log's text, and with the line that is told they are none's.
use Rattle.std.proofs.Common.{◌≡◌, ℕ, suc, ◌+◌, ◌-◌, ◌≤◌, ◌==◌, true, false, cond, List, [], ◌∷◌, Option, Some, None, IfErr, IfSome, Result, Ok, Err, ◌⊎◌, inl, inr, refl, sym, ap, ◌∙◌, arith}
use Rattle.std.proofs.lemmas.Bool.{cases_Bool, cases_eq, cond-true, cond-false}
use Rattle.conda_base.specs.Reads.{Gives}
use Rattle.conda_refute.specs.Faults.{refute_fault_of}
use Rattle.conda_refute.specs.LogText.{log_text, is_log, first_lines, IsFirstBadLine}
use Rattle.conda_refute.specs.Reader.{byte_read, at_end, after_byte, run, start, log_read}
use Rattle.conda_refute.specs.declared.log.Log.{Log}
use Rattle.conda_refute.specs.declared.log.RefuteErr.{RefuteErr}
use Rattle.conda_refute.specs.declared.log.RefuteErr.TheVariants.{Bad, BadLog, Memory}
use Rattle.conda_refute.specs.declared.reader.Place.{Place}
use Rattle.conda_refute.specs.declared.reader.Place.TheVariants.{Line, Tag, Number, Minus, Digits}
use Rattle.conda_refute.specs.declared.reader.Reading.{Reading}
use Rattle.conda_refute.proofs.Shown.{AddsTo, Adds, IsGood, adds, start_good, read_shown}
use Rattle.conda_refute.proofs.ReadBack.{read_back}

-- of a text that is refused at a line: the lines with it are refused there too, and those before are read
pub record Refused (bs : List ℕ) (r : Reading) (k : ℕ) : Type 0 where
  pub low : r.line ≤ k
  pub here : run (first_lines bs (suc (k - r.line))) r ≡ Err (BadLog k)
  pub before : (k ≡ r.line) ⊎ ((log : Log) × (run (first_lines bs (k - r.line)) r ≡ Ok log))

end_refused : (place : Place) (r : Reading) (k : ℕ) → ◌≡◌ {A = Result Log RefuteErr} (at_end place r) (Err (BadLog k)) → k ≡ r.line
end_refused Line r k h = cc
end_refused (Tag part) r k h = cc
end_refused (Number part) r k h = cc
end_refused (Minus part) r k h = cc
end_refused (Digits part negative n) r k h = cc

no_lines : (bs : List ℕ) → first_lines bs 0 ≡ []
no_lines [] = refl
no_lines (b ∷ bs) = refl

run_cons : (r s : Reading) (b : ℕ) (bs : List ℕ) → byte_read r b ≡ Some s → run (b ∷ bs) r ≡ run bs s
run_cons r s b bs e = ap (after_byte (run bs) r.line) e

at_line_end : (s : Reading) (place : Place) → place ≡ Line → (log : Log) × (at_end place s ≡ Ok log)
at_line_end s Line e = (record { inputs = s.inputs; steps = s.steps }, refl)
at_line_end s (Tag part) e = cc
at_line_end s (Number part) e = cc
at_line_end s (Minus part) e = cc
at_line_end s (Digits part negative n) e = cc

first_byte : (r s : Reading) (b : ℕ) (bs : List ℕ) (n m : ℕ) → byte_read r b ≡ Some s → n ≡ suc m → run (first_lines (b ∷ bs) n) r ≡ run (first_lines bs (cond (b == 10) m (suc m))) s
first_byte r s b bs n m e is = ap (λ x. run (first_lines (b ∷ bs) x) r) is ∙ run_cons r s b (first_lines bs (cond (b == 10) m (suc m))) e

newline_byte : (r s : Reading) (b : ℕ) (bs : List ℕ) (n m : ℕ) → byte_read r b ≡ Some s → (b == 10) ≡ true → n ≡ suc m → run (first_lines (b ∷ bs) n) r ≡ run (first_lines bs m) s
newline_byte r s b bs n m e t is = first_byte r s b bs n m e is ∙ ap (λ j. run (first_lines bs j) s) (cond-true (b == 10) m (suc m) t)

other_byte : (r s : Reading) (b : ℕ) (bs : List ℕ) (n m : ℕ) → byte_read r b ≡ Some s → (b == 10) ≡ false → n ≡ suc m → run (first_lines (b ∷ bs) n) r ≡ run (first_lines bs n) s
other_byte r s b bs n m e f is = first_byte r s b bs n m e is ∙ ap (λ j. run (first_lines bs j) s) (cond-false (b == 10) m (suc m) f ∙ sym is)

newline_before : (r s : Reading) (b : ℕ) (bs : List ℕ) (k : ℕ) → byte_read r b ≡ Some s → (b == 10) ≡ true → s.place ≡ Line → s.line ≡ r.line + 1 → s.line ≤ k →
    (k ≡ s.line) ⊎ ((log : Log) × (run (first_lines bs (k - s.line)) s ≡ Ok log)) → (log : Log) × (run (first_lines (b ∷ bs) (k - r.line)) r ≡ Ok log)
newline_before r s b bs k e t place line low (inl is) =
    let end = at_line_end s s.place place in
    let one : k - r.line ≡ suc 0 = omega arith in
    (end.0, newline_byte r s b bs (k - r.line) 0 e t one ∙ ap (λ x. run x s) (no_lines bs) ∙ end.1)
newline_before r s b bs k e t place line low (inr found) =
    let more : k - r.line ≡ suc (k - s.line) = omega arith in
    (found.0, newline_byte r s b bs (k - r.line) (k - s.line) e t more ∙ found.1)

other_before : (r s : Reading) (b : ℕ) (bs : List ℕ) (k : ℕ) → byte_read r b ≡ Some s → (b == 10) ≡ false → s.line ≡ r.line → s.line ≤ k →
    (k ≡ s.line) ⊎ ((log : Log) × (run (first_lines bs (k - s.line)) s ≡ Ok log)) → (k ≡ r.line) ⊎ (k ≡ r.line → ⊥) → (k ≡ r.line) ⊎ ((log : Log) × (run (first_lines (b ∷ bs) (k - r.line)) r ≡ Ok log))
other_before r s b bs k e f line low (inl is) side = inl (is ∙ line)
other_before r s b bs k e f line low (inr found) (inl same) = inl same
other_before r s b bs k e f line low (inr found) (inr ne) =
    let some : k - r.line ≡ suc (k - r.line - 1) = omega arith in
    inr (found.0, other_byte r s b bs (k - r.line) (k - r.line - 1) e f some ∙ ap (λ j. run (first_lines bs (k - j)) s) (sym line) ∙ found.1)

newline_refused : (r s : Reading) (b : ℕ) (bs : List ℕ) (k : ℕ) → byte_read r b ≡ Some s → Adds r b s → (b == 10) ≡ true → Refused bs s k → Refused (b ∷ bs) r k
newline_refused r s b bs k e a t w =
    let line : s.line ≡ r.line + 1 = a.line ∙ cond-true (b == 10) (r.line + 1) r.line t in
    let low : s.line ≤ k = w.low in
    let more : k - r.line ≡ suc (k - s.line) = omega arith in
    record {
      low = omega arith;
      here = newline_byte r s b bs (suc (k - r.line)) (k - r.line) e t refl ∙ ap (λ j. run (first_lines bs j) s) more ∙ w.here;
      before = inr (newline_before r s b bs k e t (a.ends t) line low w.before);
    }

other_refused : (r s : Reading) (b : ℕ) (bs : List ℕ) (k : ℕ) → byte_read r b ≡ Some s → Adds r b s → (b == 10) ≡ false → Refused bs s k → Refused (b ∷ bs) r k
other_refused r s b bs k e a f w =
    let line : s.line ≡ r.line = a.line ∙ cond-false (b == 10) (r.line + 1) r.line f in
    let low : s.line ≤ k = w.low in
    record {
      low = omega arith;
      here = other_byte r s b bs (suc (k - r.line)) (k - r.line) e f refl ∙ ap (λ j. run (first_lines bs (suc (k - j))) s) (sym line) ∙ w.here;
      before = other_before r s b bs k e f line low w.before (cases_eq k r.line);
    }

refused_after : (r : Reading) (b : ℕ) (bs : List ℕ) (k : ℕ) (o : Option Reading) → byte_read r b ≡ o → AddsTo r b o → ((s : Reading) → IsGood s → run bs s ≡ Err (BadLog k) → Refused bs s k) → after_byte (run bs) r.line o ≡ Err (BadLog k) → Refused (b ∷ bs) r k
refused_after r b bs k None e a later h =
    let is : k ≡ r.line = cc in
    record {
      low = omega arith;
      here = ap (after_byte (run (first_lines bs (cond (b == 10) (k - r.line) (suc (k - r.line))))) r.line) e ∙ h;
      before = inl is;
    }
refused_after r b bs k (Some s) e a later h =
    elim (cases_Bool (b == 10)) [
      | inl t ↦ newline_refused r s b bs k e a t (later s a.good h)
      | inr f ↦ other_refused r s b bs k e a f (later s a.good h)
    ]

refused : (bs : List ℕ) (r : Reading) (k : ℕ) → IsGood r → run bs r ≡ Err (BadLog k) → Refused bs r k
refused [] r k g h = let is : k ≡ r.line = end_refused r.place r k h in record { low = omega arith; here = h; before = inl is }
refused (b ∷ bs) r k g h = refused_after r b bs k (byte_read r b) refl (adds r b g) (λ s j e. refused bs s k j e) h

lines_before : (text : List ℕ) (k : ℕ) → (k ≡ 1) ⊎ ((log : Log) × (run (first_lines text (k - 1)) start ≡ Ok log)) → (log : Log) × (is_log log ≡ true) × (log_text log ≡ first_lines text (k - 1))
lines_before text k (inl is) =
    let none : k - 1 ≡ 0 = omega arith in
    (record { inputs = []; steps = [] }, refl, sym (ap (first_lines text) none ∙ no_lines text))
lines_before text k (inr found) = let read = read_shown (first_lines text (k - 1)) found.0 found.1 in (found.0, read.numbers, read.shows)

not_read : (text : List ℕ) (k : ℕ) (log : Log) → run (first_lines text k) start ≡ Err (BadLog k) → is_log log ≡ true → log_text log ≡ first_lines text k → ⊥
not_read text k log h is same =
    let e : ◌≡◌ {A = Result Log RefuteErr} (Ok log) (Err (BadLog k)) = sym (read_back log is) ∙ ap (λ x. run x start) same ∙ h in cc

pub first_bad_line : (text : List ℕ) (k : ℕ) → run text start ≡ Err (BadLog k) → IsFirstBadLine text k
first_bad_line text k h =
    let w = refused text start k start_good h in
    let low : 1 ≤ k = w.low in
    let whole : suc (k - 1) ≡ k = omega arith in
    record {
      before = lines_before text k w.before;
      bad = λ log is same. not_read text k log (ap (λ j. run (first_lines text j) start) (sym whole) ∙ w.here) is same;
    }

end_not_bad : (place : Place) (r : Reading) (step : ℕ) → ◌≡◌ {A = Result Log RefuteErr} (at_end place r) (Err (Bad step)) → ⊥
end_not_bad Line r step h = cc
end_not_bad (Tag part) r step h = cc
end_not_bad (Number part) r step h = cc
end_not_bad (Minus part) r step h = cc
end_not_bad (Digits part negative n) r step h = cc

not_bad_after : (bs : List ℕ) (line step : ℕ) (o : Option Reading) → ((s : Reading) → run bs s ≡ Err (Bad step) → ⊥) → after_byte (run bs) line o ≡ Err (Bad step) → ⊥
not_bad_after bs line step None f h = cc
not_bad_after bs line step (Some s) f h = f s h

not_bad : (bs : List ℕ) (r : Reading) (step : ℕ) → run bs r ≡ Err (Bad step) → ⊥
not_bad [] r step h = end_not_bad r.place r step h
not_bad (b ∷ bs) r step h = not_bad_after bs r.line step (byte_read r b) (λ s e. not_bad bs s step e) h

-- the cause of a refusal, in the words of the text
bad_cause : (text : List ℕ) (e : RefuteErr) → IfSome (refute_fault_of e) (λ fault. log_read text ≡ Err fault) → (e ≡ RefuteErr.Memory) ⊎ ((line : ℕ) × (e ≡ RefuteErr.BadLog line) × IsFirstBadLine text line)
bad_cause text (Bad step) h = absurd (not_bad text start step h)
bad_cause text (BadLog line) h = inr (line, refl, first_bad_line text line h)
bad_cause text Memory h = inl refl

pub answer_bad : (text : List ℕ) (r : Result Log RefuteErr) → Gives refute_fault_of r (log_read text) →
    IfErr r (λ e. (e ≡ RefuteErr.Memory) ⊎ ((line : ℕ) × (e ≡ RefuteErr.BadLog line) × IsFirstBadLine text line))
answer_bad text (Ok log) h = tt
answer_bad text (Err e) h = bad_cause text e h
