-- The moment that jiff shows for seconds since 1970.
use Rattle.std.proofs.Common.{◌≡◌, ℕ, ◌+◌, ◌*◌, refl, sym, ap, ◌∙◌, arith, subst, inl, rules}
use Rattle.std.specs.Prelude.{ℤ, pos, negsuc, ◌+ℤ◌, ◌*ℤ◌, ◌≤ℤ◌, unsigned_abs}
use Rattle.std.proofs.lemmas.Int.{by_lt_z, ints}
use Rattle.jiff_core.proofs.DateLemmas.{epoch_day-lt}
use Rattle.jiff_core.proofs.SignedLemmas.{signed_arith}
use Rattle.jiff_core.proofs.StandardFacts.{known_days}
use Rattle.jiff_core.specs.Calendar.{IsYear, days_from_civil, days_in_month}
use Rattle.jiff_core.specs.Date.{epoch_day}
use Rattle.jiff_core.specs.DateTime.{civil_nanos}
use Rattle.jiff_core.specs.declared.civil.date.Date.{Date}
use Rattle.jiff_core.specs.declared.civil.datetime.DateTime.{DateTime}
use Rattle.conda_history.specs.declared.stamp.Stamp.{Stamp}
use Rattle.conda_history.specs.Stamps.{Exists, seconds_of}

-- whole days and a time of day are so many seconds
same_seconds : (dt : DateTime) (n : ℕ) → civil_nanos dt ≡ pos n *ℤ pos 1_000_000_000
    → epoch_day dt.date *ℤ pos 86_400 +ℤ pos (dt.time.hour * 3600 + dt.time.minute * 60 + dt.time.second) ≡ pos n
unfolding civil_nanos
same_seconds dt n e = omega (arith, signed_arith, e, dt.time.subsec_in)

day_in : (dt : DateTime) (n : ℕ) → civil_nanos dt ≡ pos n *ℤ pos 1_000_000_000 → pos 0 ≤ℤ epoch_day dt.date
unfolding civil_nanos
day_in dt n e = omega (arith, signed_arith, e, dt.time.hour_in, dt.time.minute_in, dt.time.second_in, dt.time.subsec_in)

first_day : Date
first_day = record { year = pos 1970; month = 1; day = 1; year_in = search rules; month_in = search rules; day_in = search rules }

-- no day from 1970 on lies in a year before 0
year_in : (d : Date) → pos 0 ≤ℤ epoch_day d → pos 0 ≤ℤ d.year
unfolding first_day
year_in d h =
    by_lt_z d.year (pos 1970)
    (λ lt. absurd (omega (arith, signed_arith, epoch_day-lt d first_day (inl lt), known_days.0)))
    (λ ge. omega (arith, signed_arith))

abs_back : (y : ℤ) → pos 0 ≤ℤ y → pos (unsigned_abs y) ≡ y
abs_back (pos n) h = refl
abs_back (negsuc n) h = absurd (omega (arith, signed_arith))

-- the stamp with the parts of a date and a time
pub record Shows (dt : DateTime) (s : Stamp) : Type 0 where
  pub year : s.year ≡ unsigned_abs dt.date.year
  pub month : s.month ≡ dt.date.month
  pub day : s.day ≡ dt.date.day
  pub hour : s.hour ≡ dt.time.hour
  pub minute : s.minute ≡ dt.time.minute
  pub second : s.second ≡ dt.time.second

same_year : (dt : DateTime) (s : Stamp) (n : ℕ) → Shows dt s → civil_nanos dt ≡ pos n *ℤ pos 1_000_000_000 → pos s.year ≡ dt.date.year
same_year dt s n h e = ap pos h.year ∙ abs_back dt.date.year (year_in dt.date (day_in dt n e))

pub shown_exists : (dt : DateTime) (s : Stamp) (n : ℕ) → Shows dt s → civil_nanos dt ≡ pos n *ℤ pos 1_000_000_000 → Exists s
shown_exists dt s n h e =
    let d = dt.date in
    let t = dt.time in
    let y : pos s.year ≡ d.year = same_year dt s n h e in
    let days : days_in_month (pos s.year) s.month ≡ days_in_month d.year d.month =
    ap (λ k. days_in_month k s.month) y ∙ ap (days_in_month d.year) h.month in
    let years : IsYear (pos s.year) = subst IsYear (sym y) d.year_in in
    record {
      date = (years, (omega (arith, ints, h.month, d.month_in.0), omega (arith, ints, h.month, d.month_in.1)), (omega (arith, ints, h.day, d.day_in.0), omega (arith, ints, h.day, days, d.day_in.1)));
      time = ((omega (arith, ints), omega (arith, ints, h.hour, t.hour_in)), (omega (arith, ints), omega (arith, ints, h.minute, t.minute_in)), (omega (arith, ints), omega (arith, ints, h.second, t.second_in)), (omega (arith, ints), omega (arith, ints)));
    }

pub shown_seconds : (dt : DateTime) (s : Stamp) (n : ℕ) → Shows dt s → civil_nanos dt ≡ pos n *ℤ pos 1_000_000_000 → seconds_of s ≡ pos n
shown_seconds dt s n h e =
    let day : days_from_civil (pos s.year) s.month s.day ≡ epoch_day dt.date =
    ap (λ k. days_from_civil k s.month s.day) (same_year dt s n h e)
    ∙ ap (λ k. days_from_civil dt.date.year k s.day) h.month ∙ ap (days_from_civil dt.date.year dt.date.month) h.day in
    let time : s.hour * 3600 + s.minute * 60 + s.second ≡ dt.time.hour * 3600 + dt.time.minute * 60 + dt.time.second =
    ap (λ k. k * 3600 + s.minute * 60 + s.second) h.hour ∙ ap (λ k. dt.time.hour * 3600 + k * 60 + s.second) h.minute
    ∙ ap (λ k. dt.time.hour * 3600 + dt.time.minute * 60 + k) h.second in
    ap (λ k. k *ℤ pos 86_400 +ℤ pos (s.hour * 3600 + s.minute * 60 + s.second)) day
    ∙ ap (λ k. epoch_day dt.date *ℤ pos 86_400 +ℤ pos k) time
    ∙ same_seconds dt n e
