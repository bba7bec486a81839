-- Moments as dates and times of day in UTC. A moment is a number of nanoseconds since
-- 1970-01-01T00:00:00.
use Rattle.std.specs.Prelude.{◌≡◌, ℕ, zero, suc, ◌+◌, ◌-◌, ◌/◌, ◌%◌, ◌≤◌, nat_eq, Bool, not, ◌&&◌, ◌||◌, List, ◌++◌, codes, if◌then◌else◌}
use Rattle.std.specs.Int.{IsInRange}
use Rattle.prodash_base.specs.Numerals.{last_digits}

-- the whole seconds of a number of nanoseconds, rounded down
abbrev pub seconds_of : ℕ → ℕ
seconds_of ns = ns / 1000000000

-- the whole days since 1970, rounded down
abbrev pub day_of : ℕ → ℕ
day_of at = at / 86400000000000

-- the test whether n is a multiple of d
abbrev pub is_multiple : ℕ → ℕ → Bool
is_multiple n d = nat_eq (n % d) 0

-- every fourth year is a leap year, but of the years that end a century only every fourth
abbrev pub is_leap_year : ℕ → Bool
is_leap_year year = is_multiple year 4 && (not (is_multiple year 100) || is_multiple year 400)

-- the days of a year
abbrev pub days_in_year : ℕ → ℕ
days_in_year year = if is_leap_year year then 366 else 365

-- the days of a month: 30 of April, June, September and November
abbrev pub days_in_month : ℕ → ℕ → ℕ
days_in_month year month =
    if nat_eq month 2 then (if is_leap_year year then 29 else 28)
    else if nat_eq month 4 || nat_eq month 6 || nat_eq month 9 || nat_eq month 11 then 30
    else 31

-- the days of the first n years from 1970 on
unfoldable pub days_of_years : ℕ → ℕ
days_of_years zero = 0
days_of_years (suc n) = days_of_years n + days_in_year (1970 + n)

-- the days of the first n months of a year
unfoldable pub days_of_months : ℕ → ℕ → ℕ
days_of_months year zero = 0
days_of_months year (suc n) = days_of_months year n + days_in_month year (suc n)

-- the year, the month and the day of a date, the last two from 1 on
pub record CalendarDate : Type 0 where
  pub year : ℕ
  pub month : ℕ
  pub day : ℕ

-- the days from 1970-01-01 to a date
abbrev pub day_number : CalendarDate → ℕ
day_number d =
    days_of_years (d.year - 1970) + days_of_months d.year (d.month - 1) + (d.day - 1)

-- a date of the calendar from 1970 on, with this day number
pub record IsDateOf (number : ℕ) (d : CalendarDate) : Type 0 where
  pub year : 1970 ≤ d.year
  pub month : IsInRange 1 12 d.month
  pub day : IsInRange 1 (days_in_month d.year d.month) d.day
  pub same : day_number d ≡ number

-- no two dates have this day number
abbrev pub HasOneDate : ℕ → Type 0
HasOneDate number = (d e : CalendarDate) → IsDateOf number d → IsDateOf number e → d ≡ e

-- a date as text, as `2554-07-21`
abbrev pub date_text : CalendarDate → List ℕ
date_text d =
    last_digits 4 d.year ++ codes "-" ++ last_digits 2 d.month ++ codes "-" ++ last_digits 2 d.day

-- the time of day of a second since 1970, as `23:34:33`
abbrev pub clock_text : ℕ → List ℕ
clock_text seconds =
    last_digits 2 (seconds / 3600 % 24) ++ codes ":" ++ last_digits 2 (seconds / 60 % 60)
    ++ codes ":" ++ last_digits 2 (seconds % 60)

-- the time of day of a moment
abbrev pub time_text : ℕ → List ℕ
time_text at = clock_text (seconds_of at)

-- the date of a moment, `T`, and its time of day
pub record IsDateTimeText (at : ℕ) (text : List ℕ) : Type 0 where
  pub date : CalendarDate
  pub is_date : IsDateOf (day_of at) date
  pub is_text : text ≡ date_text date ++ codes "T" ++ time_text at
