-- Texts of what is said of tasks, as private calls return them.
use Rattle.std.specs.Prelude.{◌≡◌, ℕ, Bool, List, Option, String, string_bytes, Result, IfOk}
use Rattle.std.specs.Option.{option_map}
use Rattle.prodash_base.specs.Rows.{RowProgress, progress_of}
use Rattle.prodash_base.specs.declared.progress.Value.{Value}
use Rattle.prodash_base.specs.declared.refusal.Refusal.{Refusal}
use Rattle.prodash.specs.PlainLines.{known_outcome}
use Rattle.prodash.specs.declared.render.plain.Outcome.{Outcome}
use Rattle.prodash.specs.declared.render.plain.told.Told.{Told}

-- the progress of a row, if it has any
abbrev pub progress_in : Option Value → Option RowProgress
progress_in progress = option_map progress_of progress

-- a call that is not refused returns this text
abbrev pub GivesText : {Z : Type 0} → Result (String Z) Refusal → List ℕ → Type 0
GivesText result text = IfOk result (λ given. string_bytes given ≡ text)

-- the outcome of a task with a string as its label, of which this was said
abbrev pub IsOutcome : {Z : Type 0} → Told → ℕ → Bool → String Z → Option RowProgress → Outcome → Type 0
IsOutcome told now is_dropped label p outcome =
    outcome ≡ known_outcome told now is_dropped (string_bytes label) p
