-- The text of a log: this project's own, after the logs with hints that SAT solvers write (LRAT).
use Rattle.std.specs.Prelude.{◌≡◌, ℕ, zero, suc, ◌-◌, ◌^◌, ◌==◌, nat_lt, ℤ, pos, negsuc, Bool, true, ◌&&◌, List, [], ◌∷◌, ◌++◌, flat_map, decimal, if◌then◌else◌}
use Rattle.std.specs.List.{list_all}
use Rattle.std.specs.Fmt.{signed_decimal}
use Rattle.conda_base.specs.Signs.{newline, space, digit_zero}
use Rattle.conda_refute.specs.declared.log.Step.{Step}
use Rattle.conda_refute.specs.declared.log.Log.{Log}

-- the letters that lines begin with
abbrev pub letter_i : ℕ
letter_i = 105

abbrev pub letter_d : ℕ
letter_d = 100

-- literals, each with a space behind it, and a 0
abbrev pub literals_text : List ℤ → List ℕ
literals_text [] = digit_zero ∷ []
literals_text (l ∷ ls) = signed_decimal l ++ space ∷ literals_text ls

-- hints likewise
abbrev pub hints_text : List ℕ → List ℕ
hints_text [] = digit_zero ∷ []
hints_text (h ∷ hs) = decimal h ++ space ∷ hints_text hs

-- `i L.. 0`
abbrev pub input_line : List ℤ → List ℕ
input_line clause = letter_i ∷ space ∷ (literals_text clause ++ newline ∷ [])

-- `d L.. 0 H.. 0`
abbrev pub step_line : Step → List ℕ
step_line step = letter_d ∷ space ∷ (literals_text step.clause ++ space ∷ (hints_text step.hints ++ newline ∷ []))

-- the inputs, a line each, and then the steps; each line ends with a newline
abbrev pub log_text : Log → List ℕ
log_text log = flat_map input_line log.inputs ++ flat_map step_line log.steps

-- a literal isn't 0, and fits 32 bits
abbrev pub is_literal : ℤ → Bool
is_literal (pos n) = nat_lt 0 n && nat_lt n (2 ^ 31)
is_literal (negsuc n) = nat_lt n (2 ^ 31)

-- a hint is positive, and fits 64 bits
abbrev pub is_hint : ℕ → Bool
is_hint n = nat_lt 0 n && nat_lt n (2 ^ 64)

abbrev pub is_step : Step → Bool
is_step step = list_all is_literal step.clause && list_all is_hint step.hints

-- the log's numbers are literals and hints, so that its text can be read
abbrev pub is_log : Log → Bool
is_log log = list_all (list_all is_literal) log.inputs && list_all is_step log.steps

-- the first n lines of a text, each with its newline
abbrev pub first_lines : List ℕ → ℕ → List ℕ
first_lines [] n = []
first_lines (b ∷ bs) zero = []
first_lines (b ∷ bs) (suc n) = b ∷ first_lines bs (if b == newline then n else suc n)

-- the lines before this one are the text of a log, and with this one they are of none
pub record IsFirstBadLine (text : List ℕ) (line : ℕ) : Type 0 where
  pub before : (log : Log) × (is_log log ≡ true) × (log_text log ≡ first_lines text (line - 1))
  pub bad : (log : Log) → is_log log ≡ true → log_text log ≡ first_lines text line → ⊥
