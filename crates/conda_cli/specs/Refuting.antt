-- What `conda refute` answers. This project's own.
use Rattle.std.specs.Prelude.{◌≡◌, ◌⊎◌, ℕ, ◌<◌, ◌≤◌, nat_lt, true, false, List, [], codes, length, Some, IfSome, if◌then◌else◌}
use Rattle.conda_dev.specs.Fault.{Rose}
use Rattle.conda_dev.specs.Streams.{OutState}
use Rattle.conda_refute.specs.LogText.{IsFirstBadLine, is_log, log_text}
use Rattle.conda_refute.specs.Refutation.{bad_step, refuted}
use Rattle.conda_refute.specs.declared.log.Log.{Log}
use Rattle.conda_cli.specs.declared.fault.Fault.{Fault}
use Rattle.conda_cli.specs.declared.fault.Fault.TheVariants.{BadLog, LongInput, Memory, NotRefuted, ReadFault}
use Rattle.conda_cli.specs.Answers.{Answer, AnswersWith, EndsWith, InputState, refusal}

-- the most bytes of a log
abbrev pub log_limit : ℕ
log_limit = 67108864

-- a log has this text
abbrev pub IsTextOf : List ℕ → Log → Type 0
IsTextOf text log = (is_log log ≡ true) × (log_text log ≡ text)

-- no other log has the text
abbrev pub IsAlone : List ℕ → Log → Type 0
IsAlone text log = (other : Log) → IsTextOf text other → other ≡ log

-- it is the text of no log
abbrev pub IsOfNone : List ℕ → Type 0
IsOfNone text = (log : Log) → IsTextOf text log → ⊥

-- the log is a refutation, or its first step that doesn't follow is named
abbrev pub IsChecked : Log → Answer → Type 0
IsChecked log answer =
    ((refuted log ≡ true) × (answer ≡ record { status = 0; text = codes "refuted\n" }))
    ⊎ ((step : ℕ) × (refuted log ≡ false) × (bad_step log ≡ Some step) × (answer ≡ refusal (NotRefuted step) []))

-- the text is no log's, and this fault names the line from which on it is none's
abbrev pub IsLineFault : List ℕ → Fault → Type 0
IsLineFault text fault = (line : ℕ) × IsOfNone text × IsFirstBadLine text line × (fault ≡ BadLog line)

-- the same of an answer
abbrev pub IsBadLog : List ℕ → Answer → Type 0
IsBadLog text answer = (fault : Fault) × IsLineFault text fault × (answer ≡ refusal fault [])

-- what is answered of a text within the limit: it is no log's, or of one log, which is checked
abbrev pub IsFinding : List ℕ → Answer → Type 0
IsFinding text answer = IsBadLog text answer ⊎ ((log : Log) × IsTextOf text log × IsAlone text log × IsChecked log answer)

-- what is answered of a text: it is longer than the limit, or what is found of it
abbrev pub IsVerdict : List ℕ → Answer → Type 0
IsVerdict text answer =
    ((log_limit < length text) × (answer ≡ refusal LongInput []))
    ⊎ ((length text ≤ log_limit) × IsFinding text answer)

-- where the input tells what it has left, this text is all of that, and nothing is left, unless it is longer than the limit
abbrev pub IsHeard : List ℕ → InputState → InputState → Type 0
IsHeard text before now = IfSome before.left (λ all. (text ≡ all) × (length text ≤ log_limit → now.left ≡ Some []))

-- why an input isn't read to its end: it is longer than the limit, or a read failed, and that count rose; or there was no memory
abbrev pub IsReadCause : InputState → InputState → Fault → Type 0
IsReadCause before now LongInput = (text : List ℕ) × IsHeard text before now × (log_limit < length text)
IsReadCause before now ReadFault = Rose before.faults now.faults
IsReadCause before now Memory = Unit {0}
IsReadCause before now _ = ⊥

-- A run that checks a log answers by the text that it read, which is all that the input had left where it tells it; or a
-- read failed, and that count rose; or there was no memory.
abbrev pub IsRefuteAnswer : InputState → InputState → Answer → Type 0
IsRefuteAnswer before now answer =
    ((text : List ℕ) × IsHeard text before now × IsVerdict text answer)
    ⊎ (Rose before.faults now.faults × (answer ≡ refusal ReadFault []))
    ⊎ (answer ≡ refusal Memory [])

-- What such a run does where the input tells this text, and no count of faults rises: each answer comes exactly where it
-- is due.
pub record ChecksExactly (text : List ℕ) (status : ℕ) (before now : OutState) : Type 0 where
  pub long : log_limit < length text → EndsWith (λ answer. answer ≡ refusal LongInput []) status before now
  pub none : length text ≤ log_limit → IsOfNone text → EndsWith (IsBadLog text) status before now
  pub checked : length text ≤ log_limit → (log : Log) → IsTextOf text log → EndsWith (IsChecked log) status before now
  pub refuted_only : status ≡ 0 → (log : Log) × IsTextOf text log × (refuted log ≡ true)
  pub not_refuted_only : status ≡ 1 → (log : Log) × IsTextOf text log × (refuted log ≡ false)
  pub bad_only : status ≡ 2 → (log_limit < length text) ⊎ IsOfNone text

-- what a run of `refute` tells
pub record Checks (status : ℕ) (input_before input_now : InputState) (before now : OutState) : Type 0 where
  -- some answer is given, with its cause
  pub answers : AnswersWith (IsRefuteAnswer input_before input_now) status before now
  pub exactly : (text : List ℕ) → input_before.left ≡ Some text → ¬ Rose input_before.faults input_now.faults
      → ¬ Rose before.faults now.faults → ChecksExactly text status before now
  -- a fault only where a count rose
  pub faults : status ≡ 3 → Rose input_before.faults input_now.faults ⊎ Rose before.faults now.faults

-- a byte of a text: itself where it is ASCII, else `?`, which no log has
abbrev pub as_ascii : ℕ → ℕ
as_ascii byte = if nat_lt byte 128 then byte else 63
