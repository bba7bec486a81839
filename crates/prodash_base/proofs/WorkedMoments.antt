-- Worked moments, by computation alone.
use Rattle.std.proofs.Common.{◌≡◌, refl, true, false}
use Rattle.std.specs.Prelude.{codes}
use Rattle.prodash_base.specs.Numerals.{last_digits}
use Rattle.prodash_base.specs.Moments.{is_leap_year, days_in_month, day_of, day_number, time_text, date_text, days_of_years, days_of_months}

-- the last moment of 64 bits
pub last_time : time_text 18446744073709551615 ≡ codes "23:34:33"
unfolding last_digits
last_time = refl

pub last_date : date_text (record { year = 2554; month = 7; day = 21 }) ≡ codes "2554-07-21"
unfolding last_digits
last_date = refl

pub last_day : day_number (record { year = 2554; month = 7; day = 21 }) ≡ day_of 18446744073709551615
unfolding days_of_years days_of_months
last_day = refl

pub first_day : day_number (record { year = 1970; month = 1; day = 1 }) ≡ 0
unfolding days_of_years days_of_months
first_day = refl

pub leap_day : day_number (record { year = 2000; month = 2; day = 29 }) ≡ 11016
unfolding days_of_years days_of_months
leap_day = refl

-- 2000 is a leap year, and 2100 isn't
pub century_with_leap_day : is_leap_year 2000 ≡ true
century_with_leap_day = refl

pub century_without_leap_day : is_leap_year 2100 ≡ false
century_without_leap_day = refl

pub february : days_in_month 2024 2 ≡ 29
february = refl
