-- Day numbers since 1970, and those of the calendar of `jiff`.
use Rattle.std.proofs.Common.{◌≡◌, ℕ, zero, suc, ◌+◌, ◌-◌, ◌/◌, ◌≤◌, refl, ap, ◌∙◌, arith, ℤ, pos, negsuc, ◌≤ℤ◌}
use Rattle.std.specs.Prelude.{unsigned_abs}
use Rattle.std.proofs.lemmas.Int.{by_lt_z}
use Rattle.jiff_core.specs.Calendar.{days_of_months as jiff_days_of_months, day_count, days_from_civil, IsCivilDate}
use Rattle.jiff_core.specs.Date.{epoch_day}
use Rattle.jiff_core.specs.DateTime.{civil_nanos}
use Rattle.jiff_core.specs.declared.civil.date.Date.{Date}
use Rattle.jiff_core.specs.declared.civil.datetime.DateTime.{DateTime}
use Rattle.jiff_core.proofs.CalendarLemmas.{day_count-epoch, day_count-next_year, day_count-day_of_year, day_count-lt_year, days_from_civil-day_count}
use Rattle.jiff_core.proofs.DateLemmas.{civil}
use Rattle.jiff_core.proofs.DateTimeLemmas.{epoch_day-civil_nanos}
use Rattle.jiff_core.proofs.SignedLemmas.{signed_arith}
use Rattle.prodash_base.specs.Moments.{days_of_years, days_of_months, days_in_year, days_in_month, IsDateOf}

same_months : (year months : ℕ) → jiff_days_of_months (pos year) months ≡ days_of_months year months
unfolding jiff_days_of_months days_of_months
same_months year zero = refl
same_months year (suc months) = ap (λ n. n + days_in_month year (suc months)) (same_months year months)

years_before : (years : ℕ) → day_count (pos (1970 + years)) 1 1 ≡ 4_371_953 + days_of_years years
unfolding days_of_years
years_before zero = day_count-epoch
years_before (suc years) =
    let before = years_before years in
    let next = day_count-next_year (pos (1970 + years)) (pos (1970 + suc years)) (omega (arith, signed_arith)) (omega (arith, signed_arith)) in
    next ∙ ap (λ n. n + days_in_year (1970 + years)) before ∙ omega arith

-- 1 January of a year from 1970 on
january : (year : ℕ) → 1970 ≤ year → day_count (pos year) 1 1 ≡ 4_371_953 + days_of_years (year - 1970)
january year h = let e : 1970 + (year - 1970) ≡ year = omega arith in rw e at (years_before (year - 1970))

date_from_1970 : (year month day number : ℕ) → IsCivilDate (pos year) month day → 1970 ≤ year → day_count (pos year) month day ≡ 4_371_953 + number
    → IsDateOf number (record { year = year; month = month; day = day })
date_from_1970 year month day number real since count = record {
  year = since;
  month = real.1;
  day = real.2;
  same = let start = january year since in
      let months = same_months year (month - 1) in
      let days = day_count-day_of_year (pos year) month day real.2.0 in
      let first = real.2.0 in
      omega arith;
}

not_before : (year : ℤ) (month day number : ℕ) → IsCivilDate year month day → days_from_civil year month day ≡ pos number → pos 1970 ≤ℤ year
not_before year month day number real e =
    by_lt_z year (pos 1970)
    (λ early. absurd (omega (arith, signed_arith, days_from_civil-day_count year month day, day_count-lt_year year month day (pos 1970) 1 1 real (omega arith) early, day_count-epoch)))
    (λ late. late)

date_with : (year : ℤ) (month day number : ℕ) → IsCivilDate year month day → days_from_civil year month day ≡ pos number
    → IsDateOf number (record { year = unsigned_abs year; month = month; day = day })
date_with (pos year) month day number real e =
    date_from_1970 year month day number real
    (omega (arith, signed_arith, not_before (pos year) month day number real e))
    (omega (arith, signed_arith, days_from_civil-day_count (pos year) month day))
date_with (negsuc year) month day number real e =
    absurd (omega (arith, signed_arith, not_before (negsuc year) month day number real e))

-- a date of `jiff` with a day number that is not negative is the date with that number
pub date_is : (d : Date) (number : ℕ) → epoch_day d ≡ pos number → IsDateOf number (record { year = unsigned_abs d.year; month = d.month; day = d.day })
date_is d number e = date_with d.year d.month d.day number (civil d) e

-- the day of a moment is the day number of its date
pub day_is : (dt : DateTime) (at : ℕ) → civil_nanos dt ≡ pos at → epoch_day dt.date ≡ pos (at / 86_400_000_000_000)
day_is dt at e = omega (arith, signed_arith, epoch_day-civil_nanos dt)
