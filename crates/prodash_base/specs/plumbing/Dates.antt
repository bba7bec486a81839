-- Dates of `jiff` as dates of the calendar.
use Rattle.std.specs.Prelude.{unsigned_abs}
use Rattle.jiff_core.specs.declared.civil.date.Date.{Date}
use Rattle.prodash_base.specs.Moments.{CalendarDate}

-- a date of `jiff` that is not before year 0
abbrev pub calendar_date : Date → CalendarDate
calendar_date d = record { year = unsigned_abs d.year; month = d.month; day = d.day }
