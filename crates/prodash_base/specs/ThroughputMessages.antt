-- The message that says how fast steps were done.
use Rattle.std.specs.Prelude.{ℕ, ◌+◌, ◌-◌, ◌*◌, ◌/◌, ◌^◌, min, nat_eq, List, ◌++◌, codes, Option, None, if◌then◌else◌}
use Rattle.std.specs.Fmt.{decimal}
use Rattle.prodash_base.specs.Numerals.{last_digits}
use Rattle.prodash_base.specs.Shown.{Shown}
use Rattle.prodash_base.specs.Displays.{spaced}
use Rattle.prodash_base.specs.Units.{unit_shown}
use Rattle.prodash_base.specs.declared.unit.units.Unit.{Unit}

-- the steps in a second, rounded down, at most 2^64 - 1; in a time of 0 they are 0 if no step was done, and else 2^64 - 1
abbrev pub rate_of : ℕ → ℕ → ℕ
rate_of step ns =
    if nat_eq ns 0 then (if nat_eq step 0 then 0 else 2 ^ 64 - 1)
    else min (step * 1_000_000_000 / ns) (2 ^ 64 - 1)

-- the nearest number of hundredths of a second, halves rounded up
abbrev pub hundredths_of : ℕ → ℕ
hundredths_of ns = (ns + 5_000_000) / 10_000_000

-- a number of nanoseconds in seconds, as `2.50`
abbrev pub seconds_text : ℕ → List ℕ
seconds_text ns = decimal (hundredths_of ns / 100) ++ codes "." ++ last_digits 2 (hundredths_of ns)

-- a value, and the unit of a number of steps, as `10 items`
abbrev pub amount_text : Shown → ℕ → ℕ → List ℕ
amount_text s value step = s.value value None ++ spaced (s.unit step)

-- what was done, and how long it took, as `done 10 items in 2.50`
abbrev pub done_text : Shown → ℕ → ℕ → List ℕ
done_text s step ns = codes "done " ++ amount_text s step step ++ (codes " in " ++ seconds_text ns)

-- steps done in a number of nanoseconds, as `done 10 items in 2.50s (4 items/s)`
abbrev pub message_text : Shown → ℕ → ℕ → List ℕ
message_text s step ns =
    done_text s step ns ++ codes "s (" ++ amount_text s (rate_of step ns) step ++ codes "/s)"

-- the message about this many steps of a unit, or of plain items, between two moments; in no time if
-- the second is before the first
abbrev pub done_message : Option Unit → ℕ → ℕ → ℕ → List ℕ
done_message unit step start now = message_text (unit_shown unit) step (now - start)
