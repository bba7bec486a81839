-- No two dates have one day number.
use Rattle.std.proofs.Common.{◌≡◌, ℕ, zero, suc, ◌+◌, ◌-◌, ◌<◌, ◌≤◌, true, false, cond, refl, sym, ap, ◌∙◌, arith}
use Rattle.std.specs.Prelude.{nat_lt}
use Rattle.std.proofs.lemmas.Bool.Decides.{nat_tests}
use Rattle.prodash_base.specs.Moments.{is_leap_year, days_in_year, days_in_month, days_of_years, days_of_months, CalendarDate, IsDateOf}

-- a function that doesn't fall from a number to the next falls nowhere
rises : (f : ℕ → ℕ) → ((n : ℕ) → f n ≤ f (suc n)) → (n k m : ℕ) → m ≡ k + n → f n ≤ f m
rises f step n zero m e = let same : m ≡ n = omega arith in omega (arith, ap f same)
rises f step n (suc k) m e =
    let next : m ≡ suc (k + n) = omega arith in
    omega (arith, ap f next, step (k + n), rises f step n k (k + n) refl)

-- the days of more years and of more months
years_rise : (n m : ℕ) → n ≤ m → days_of_years n ≤ days_of_years m
unfolding days_of_years
years_rise n m h = rises days_of_years (λ k. omega arith) n (m - n) m (omega arith)

months_rise : (year n m : ℕ) → n ≤ m → days_of_months year n ≤ days_of_months year m
unfolding days_of_months
months_rise year n m h = rises (days_of_months year) (λ k. omega arith) n (m - n) m (omega arith)

-- the months of a year have its days
twelve_months : (year : ℕ) → days_of_months year 12 ≡ days_in_year year
unfolding days_of_months
twelve_months year =
    elim (is_leap_year year) as (λ b. 31 + cond b 29 28 + 31 + 30 + 31 + 30 + 31 + 31 + 30 + 31 + 30 + 31 ≡ cond b 366 365) [ true ↦ refl | false ↦ refl ]

-- the days before a month and those of the month
next_month : (year month : ℕ) → 1 ≤ month → days_of_months year (month - 1) + days_in_month year month ≡ days_of_months year month
unfolding days_of_months
next_month year zero h = absurd (omega arith)
next_month year (suc n) h = let e : suc n - 1 ≡ n = omega arith in ap (λ k. days_of_months year k + days_in_month year (suc n)) e

-- the days before a year and those of the year
next_year : (year : ℕ) → 1970 ≤ year → days_of_years (year - 1970) + days_in_year year ≡ days_of_years (year + 1 - 1970)
unfolding days_of_years
next_year year h =
    let e : year + 1 - 1970 ≡ suc (year - 1970) = omega arith in
    let same : 1970 + (year - 1970) ≡ year = omega arith in
    sym (ap days_of_years e ∙ ap (λ y. days_of_years (year - 1970) + days_in_year y) same)

-- a date of an earlier year has a smaller day number, and so has one of an earlier month of the same year
year_before : (number other : ℕ) (d e : CalendarDate) → IsDateOf number d → IsDateOf other e → d.year < e.year → number < other
year_before number other d e real later h =
    let months = months_rise d.year d.month 12 real.month.1 in
    let years = years_rise (d.year + 1 - 1970) (e.year - 1970) (omega arith) in
    omega (arith, real.same, later.same, next_month d.year d.month real.month.0, twelve_months d.year, next_year d.year real.year, months, years, real.day.0, real.day.1, later.day.0)

month_before : (number other : ℕ) (d e : CalendarDate) → IsDateOf number d → IsDateOf other e → d.year ≡ e.year → d.month < e.month → number < other
month_before number other d e real later same h =
    let months = months_rise d.year d.month (e.month - 1) (omega arith) in
    let years = ap (λ y. days_of_years (y - 1970)) same in
    let year = ap (λ y. days_of_months y (e.month - 1)) same in
    omega (arith, real.same, later.same, next_month d.year d.month real.month.0, months, years, year, real.day.0, real.day.1, later.day.0)

not_less : (m n : ℕ) → (m < n → ⊥) → n ≤ m
not_less m n none =
    elim (nat_lt m n) as (λ b. nat_lt m n ≡ b → n ≤ m) [
      | true ↦ λ e. absurd (none (grind (arith, nat_tests)))
      | false ↦ λ e. grind (arith, nat_tests)
    ] refl

same_year : (number : ℕ) (d e : CalendarDate) → IsDateOf number d → IsDateOf number e → d.year ≤ e.year
same_year number d e real other = not_less e.year d.year (λ h. let less = year_before number number e d other real h in omega (arith, less))

same_month : (number : ℕ) (d e : CalendarDate) → IsDateOf number d → IsDateOf number e → d.year ≡ e.year → d.month ≤ e.month
same_month number d e real other same =
    not_less e.month d.month (λ h. let less = month_before number number e d other real (sym same) h in omega (arith, less))

-- two dates with one day number are one date
pub one_date : (number : ℕ) (d e : CalendarDate) → IsDateOf number d → IsDateOf number e → d ≡ e
one_date number d e real other =
    let year : d.year ≡ e.year = omega (arith, same_year number d e real other, same_year number e d other real) in
    let month : d.month ≡ e.month = omega (arith, same_month number d e real other year, same_month number e d other real (sym year)) in
    let years = ap (λ y. days_of_years (y - 1970)) year in
    let months = ap (λ y. days_of_months y (d.month - 1)) year ∙ ap (λ m. days_of_months e.year (m - 1)) month in
    let day : d.day ≡ e.day = omega (arith, real.same, other.same, years, months, real.day.0, other.day.0) in
    λ i. record { year = year i; month = month i; day = day i }
