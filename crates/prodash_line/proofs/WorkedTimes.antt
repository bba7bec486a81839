-- Worked lines of a row with its time, by computation alone.
use Rattle.std.proofs.Common.{◌≡◌, ℕ, false, List, [], ◌∷◌, Some, None, refl}
use Rattle.std.specs.Prelude.{codes}
use Rattle.std.specs.Str.{chars}
use Rattle.std.specs.Fmt.{digits}
use Rattle.unicode_width.specs.Width.{str_width, step, past_emoji}
use Rattle.prodash_base.specs.Numerals.{last_digits}
use Rattle.prodash_base.specs.Rows.{PathRow, Running, unknown_id}
use Rattle.prodash_base.specs.declared.timing.task_time.TaskTime.{TaskTime}
use Rattle.prodash_line.specs.Lines.{line_text}
use Rattle.prodash_line.specs.ProgressRows.{row_line}

-- `t`, at 10 of 100
abbrev ten : PathRow
ten = (0 ∷ [], record { name = codes "t"; id = unknown_id; progress = Some (record { counter = 10; bound = Some 100; unit = None; phase = Running }) })

-- it has run for 22 seconds, and has stalled for 12
abbrev stalls : TaskTime
stalls = record { has_finished = false; elapsed = 22; remaining = Some 198; stalled = Some 12 }

-- its line on this many columns
abbrev on : ℕ → List ℕ
on columns = line_text (row_line false columns None 0 (ten, None) (Some stalls))

pub sixty_columns : on 60 ≡ codes " t 10/100 22s, 3m18s left, no step for 12s [=>-------------]"
unfolding chars str_width step past_emoji digits last_digits
sixty_columns = refl

-- what remains gives way after the bar
pub forty_columns : on 40 ≡ codes " t 10/100 22s, no step for 12s [>------]"
unfolding chars str_width step past_emoji digits last_digits
forty_columns = refl

-- then the stall, and then the time
pub twenty_columns : on 20 ≡ codes " t 10/100 22s [>---]"
unfolding chars str_width step past_emoji digits last_digits
twenty_columns = refl

pub twelve_columns : on 12 ≡ codes " t 10/100 [>]"
unfolding chars str_width step past_emoji digits last_digits
twelve_columns = refl
