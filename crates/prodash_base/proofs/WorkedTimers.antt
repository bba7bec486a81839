-- Worked ticks of a timer, and what the row of one task says of its time.
use Rattle.std.proofs.Common.{◌≡◌, ℕ, ◌*◌, ◌^◌, ◌-◌, List, [], ◌∷◌, Option, Some, None, refl}
use Rattle.std.specs.Prelude.{codes}
use Rattle.std.specs.Fmt.{digits}
use Rattle.std.specs.Option.{option_map}
use Rattle.prodash_base.specs.Numerals.{last_digits}
use Rattle.prodash_base.specs.Rows.{PathRow, Running, unknown_id}
use Rattle.prodash_base.specs.Times.{time_text}
use Rattle.prodash_base.specs.Timers.{TimerState, new_timer, timer_after, row_time}

-- a task at this step of a bound
abbrev row : ℕ → Option ℕ → PathRow
row step bound = (
  0 ∷ [],
  record {
    name = codes "task";
    id = unknown_id;
    progress = Some (record { counter = step; bound = bound; unit = None; phase = Running });
  },
)

-- what the task's row says at each tick: its second, its step and its bound
abbrev said : TimerState → List (ℕ × ℕ × Option ℕ) → List (Option (List ℕ))
said t [] = []
said t (tick ∷ ticks) =
    let at = tick.0 * 1000000000 in
    let it = row tick.1 tick.2 in
    let after = timer_after t at (it ∷ []) in
    option_map time_text (row_time after at it) ∷ said after ticks

-- 10 of 100 after 5 seconds
pub steady : said new_timer ((7000, 0, Some 100) ∷ (7005, 10, Some 100) ∷ []) ≡ Some (codes "0s") ∷ Some (codes "5s, 45s left") ∷ []
unfolding digits last_digits
steady = refl

-- then no step for 12 seconds
pub stalls : said new_timer ((0, 0, Some 100) ∷ (5, 10, Some 100) ∷ (17, 10, Some 100) ∷ [])
    ≡ Some (codes "0s") ∷ Some (codes "5s, 45s left") ∷ Some (codes "17s, 2m33s left, no step for 12s") ∷ []
unfolding digits last_digits
stalls = refl

-- a bound that shrinks below the step: the task has finished, and its time stays
pub finishes : said new_timer ((0, 0, Some 100) ∷ (8, 10, Some 5) ∷ (9, 11, Some 5) ∷ []) ≡ Some (codes "0s") ∷ Some (codes "in 8s") ∷ Some (codes "in 8s") ∷ []
unfolding digits last_digits
finishes = refl

-- a bound that grows: the task goes on, since it began
pub grows : said new_timer ((0, 0, Some 5) ∷ (8, 5, Some 5) ∷ (10, 6, Some 12) ∷ []) ≡ Some (codes "0s") ∷ Some (codes "in 8s") ∷ Some (codes "10s, 10s left") ∷ []
unfolding digits last_digits
grows = refl

-- a step that falls: the task begins anew
pub falls : said new_timer ((0, 50, None) ∷ (8, 70, None) ∷ (9, 1, None) ∷ []) ≡ Some (codes "0s") ∷ Some (codes "8s") ∷ Some (codes "0s") ∷ []
unfolding digits last_digits
falls = refl

-- one step of the most that there are
pub longest : said new_timer ((0, 0, Some (2 ^ 64 - 1)) ∷ (1, 1, Some (2 ^ 64 - 1)) ∷ []) ≡ Some (codes "0s") ∷ Some (codes "1s, 99d00h left") ∷ []
unfolding digits last_digits
longest = refl

-- a clock that goes back adds nothing
pub clock_back : said new_timer ((10, 0, None) ∷ (13, 1, None) ∷ (4, 2, None) ∷ (5, 2, None) ∷ []) ≡ Some (codes "0s") ∷ Some (codes "3s") ∷ Some (codes "3s") ∷ Some (codes "4s") ∷ []
unfolding digits last_digits
clock_back = refl
