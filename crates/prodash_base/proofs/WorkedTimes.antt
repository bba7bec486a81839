-- Worked rows of times as texts.
use Rattle.std.proofs.Common.{◌≡◌, ◌^◌, ◌-◌, codes, Some, None, true, false, refl}
use Rattle.std.specs.Fmt.{digits}
use Rattle.prodash_base.specs.Numerals.{last_digits}
use Rattle.prodash_base.specs.Times.{seconds_text, duration_text, stopwatch_text, remaining_seconds, time_text}

pub seconds : seconds_text 42 ≡ codes "42s"
unfolding digits last_digits
seconds = refl

pub minutes : seconds_text 130 ≡ codes "2m10s"
unfolding digits last_digits
minutes = refl

pub one_minute : seconds_text 60 ≡ codes "1m00s"
unfolding digits last_digits
one_minute = refl

pub hours : seconds_text 11159 ≡ codes "3h05m"
unfolding digits last_digits
hours = refl

pub days : seconds_text 619200 ≡ codes "7d04h"
unfolding digits last_digits
days = refl

pub tenths : duration_text 3299999999 ≡ codes "3.2s"
unfolding digits last_digits
tenths = refl

pub ten_seconds : duration_text 10000000000 ≡ codes "10s"
unfolding digits last_digits
ten_seconds = refl

pub on_stopwatch : stopwatch_text 42999999999 ≡ codes "[00:42]"
unfolding digits last_digits
on_stopwatch = refl

pub after_an_hour : stopwatch_text 3723000000000 ≡ codes "[1:02:03]"
unfolding digits last_digits
after_an_hour = refl

-- three steps in ten seconds: the fourth takes three and a third
pub rounded_up_seconds : remaining_seconds 1 3 10000000000 ≡ Some 4
rounded_up_seconds = refl

pub nothing_done : remaining_seconds 4 0 10000000000 ≡ None
nothing_done = refl

pub at_most_99_days : remaining_seconds (2 ^ 64 - 1) 1 (2 ^ 64 - 1) ≡ Some 8553600
at_most_99_days = refl

pub rest_and_stall : time_text (record { has_finished = false; elapsed = 65; remaining = Some 130; stalled = Some 12 }) ≡ codes "1m05s, 2m10s left, no step for 12s"
unfolding digits last_digits
rest_and_stall = refl

pub took : time_text (record { has_finished = true; elapsed = 195; remaining = None; stalled = None }) ≡ codes "in 3m15s"
unfolding digits last_digits
took = refl
