use Rattle.std.proofs.Common.{◌≡◌, ap, arith, pos, to_z, w16, w64, FitsSigned, ◌*ℤ◌, ◌∙◌}
use Rattle.std.specs.Prelude.{unsigned_abs}
use Rattle.std.proofs.lemmas.Int.{to_z-of_z, to_z_pos}
use Rattle.jiff_core.proofs.SignedLemmas.{signed_arith}
use Rattle.jiff_core.specs.DateTime.{civil_nanos}
use Rattle.conda_history.proofs.MomentLemmas.{shown_seconds}
use Rattle.conda_history.proofs.stamp.Stamp.of.Goals as goal

pub returns-clause-moment : goal.returns-clause-moment
returns-clause-moment c =
    let cast : to_z w64 c.args.seconds ≡ pos c.args.seconds = to_z_pos w64 c.args.seconds (omega (arith, c.requires)) in
    let nanos : civil_nanos c.to_datetime-moment.result ≡ pos c.args.seconds *ℤ pos 1_000_000_000 =
    omega (arith, signed_arith, cast, c.to_datetime-moment.ensures, c.constant.ensures) in
    let date = c.to_plain-date.ensures ∙ c.date.ensures in
    let time = c.to_plain-time.ensures ∙ c.time.ensures in
    let fits : FitsSigned w16 c.to_plain-date.result.year = omega (arith, signed_arith, c.to_plain-date.result.year_in) in
    let year : c.unsigned_abs.result ≡ unsigned_abs c.to_datetime-moment.result.date.year =
    c.unsigned_abs.ensures.value ∙ ap unsigned_abs (to_z-of_z w16 c.to_plain-date.result.year fits) ∙ ap (λ d. unsigned_abs d.year) date in
    shown_seconds c.to_datetime-moment.result _ c.args.seconds
    (record {
      year = year;
      month = ap (λ d. d.month) date;
      day = ap (λ d. d.day) date;
      hour = ap (λ t. t.hour) time;
      minute = ap (λ t. t.minute) time;
      second = ap (λ t. t.second) time;
    }) nanos
