-- A moment in UTC and its text, as conda's history.py writes it in a header line: `==> YYYY-MM-DD HH:MM:SS <==`.
use Rattle.std.specs.Prelude.{ℕ, ℤ, ◌+ℤ◌, ◌*ℤ◌, ◌+◌, ◌*◌, ◌-◌, ◌/◌, ◌%◌, ◌≤◌, Bool, ◌&&◌, nat_le, nat_eq, if◌then◌else◌, List, [], ◌∷◌, ◌++◌, codes, Option, Some, None, pos, slice_index}
use Rattle.std.specs.Char.{is_ascii_digit}
use Rattle.std.specs.Cmp.Lexicographic.{pointwise}
use Rattle.conda_base.specs.Signs.{colon, dash, digit_zero, space}
use Rattle.jiff_core.specs.Calendar.{IsDate, days_from_civil, days_in_month}
use Rattle.jiff_core.specs.Time.{IsTime}
use Rattle.conda_history.specs.declared.stamp.Stamp.{Stamp}

-- ---- the grammar

-- a number below 100 in two digits
abbrev pub two_digits : ℕ → List ℕ
two_digits n = (digit_zero + n / 10) ∷ (digit_zero + n % 10) ∷ []

-- `YYYY-MM-DD`
abbrev pub date_text : Stamp → List ℕ
date_text s = two_digits (s.year / 100) ++ (two_digits (s.year % 100) ++ dash ∷ (two_digits s.month ++ dash ∷ two_digits s.day))

-- `HH:MM:SS`
abbrev pub time_text : Stamp → List ℕ
time_text s = two_digits s.hour ++ colon ∷ (two_digits s.minute ++ colon ∷ two_digits s.second)

-- `YYYY-MM-DD HH:MM:SS`
abbrev pub moment_text : Stamp → List ℕ
moment_text s = date_text s ++ space ∷ time_text s

-- `==> YYYY-MM-DD HH:MM:SS <==`, the header line as it is written
abbrev pub header_text : Stamp → List ℕ
header_text s = codes "==> " ++ (moment_text s ++ codes " <==")

-- the calendar of ISO 8601 has the date, in the years 0 to 9999, and the clock has the time; no minute has a second 60
pub record Exists (s : Stamp) : Type 0 where
  pub date : IsDate (pos s.year) (pos s.month) (pos s.day)
  pub time : IsTime (pos s.hour) (pos s.minute) (pos s.second) (pos 0)

-- the seconds from 1970-01-01 00:00:00 UTC to the moment, without leap seconds
abbrev pub seconds_of : Stamp → ℤ
seconds_of s =
    days_from_civil (pos s.year) s.month s.day *ℤ pos 86_400
    +ℤ pos (s.hour * 3600 + s.minute * 60 + s.second)

-- ---- the same as functions

-- four digits of the year, and two of each other number
pub record IsShort (s : Stamp) : Type 0 where
  pub year : s.year ≤ 9999
  pub month : s.month ≤ 99
  pub day : s.day ≤ 99
  pub hour : s.hour ≤ 99
  pub minute : s.minute ≤ 99
  pub second : s.second ≤ 99

-- the digit at an offset, or 0 where none stands there
abbrev pub digit_at : List ℕ → ℕ → ℕ
digit_at text at = if is_ascii_digit (slice_index text at) then slice_index text at - digit_zero else 0

abbrev pub two_at : List ℕ → ℕ → ℕ
two_at text at = digit_at text at * 10 + digit_at text (at + 1)

-- the numbers at the offsets where a moment has them
abbrev pub stamp_at : List ℕ → Stamp
stamp_at text = record {
  year = two_at text 0 * 100 + two_at text 2;
  month = two_at text 5;
  day = two_at text 8;
  hour = two_at text 11;
  minute = two_at text 14;
  second = two_at text 17;
}

abbrev pub exists : Stamp → Bool
exists s =
    nat_le 1 s.month && nat_le s.month 12 && nat_le 1 s.day && nat_le s.day (days_in_month (pos s.year) s.month)
    && nat_le s.hour 23 && nat_le s.minute 59 && nat_le s.second 59

-- the stamp whose moment the text is
unfoldable pub stamp_of : List ℕ → Option Stamp
stamp_of text =
    if pointwise nat_eq text (moment_text (stamp_at text)) && exists (stamp_at text) then Some (stamp_at text) else None
