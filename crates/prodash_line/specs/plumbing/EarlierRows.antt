-- The rows that a tick sees, and those that were remembered before it.
use Rattle.std.specs.Prelude.{◌≡◌, ℕ, Bool, List, Option, Some}
use Rattle.prodash_base.specs.declared.messages.Message.{Message}
use Rattle.std.specs.Global.{Vec}
use Rattle.prodash_base.specs.FrameTrackers.{FrameTracker}
use Rattle.prodash_base.specs.Rows.{PathRow}
use Rattle.prodash_base.specs.Steps.{with_steps}
use Rattle.prodash_line.specs.declared.render.line.draw.earlier_rows.EarlierRows.{EarlierRows}
use Rattle.prodash_line.specs.declared.render.line.draw.earlier_rows.EarlierRows.TheVariants as earlier
use Rattle.prodash_line.specs.declared.render.line.draw.earlier_rows.SeenRows.{SeenRows}
use Rattle.prodash_line.specs.declared.render.line.draw.earlier_rows.SeenRows.TheVariants as seen
use Rattle.prodash_line.specs.declared.render.line.draw.input.Input.{Input}
use Rattle.prodash_line.specs.declared.render.line.draw.input.Input.TheVariants.{Tick}
use Rattle.prodash_line.specs.declared.render.line.draw.action.Action.{Action}
use Rattle.prodash_line.specs.declared.render.line.draw.action.Composed.{Composed}
use Rattle.prodash_line.specs.declared.render.line.draw.action.Drawn.{Drawn}
use Rattle.prodash_line.specs.declared.render.line.draw.latest_rows.KeptLines.{KeptLines}
use Rattle.prodash_line.specs.declared.render.line.draw.line_writer.LineWriter.{LineWriter}
use Rattle.prodash_line.specs.Renderer.{Renderer, is_drawn, latest_rows, rows_changed, tick_action}
use Rattle.prodash_line.specs.plumbing.FrameWriting.{Composes, KeepsLines, LeftByTick, RowsStay}
use Rattle.prodash_line.specs.plumbing.KeptLines.{AreKept}

-- the rows that a tick sees if these are remembered
abbrev pub rows_seen : SeenRows → List PathRow → List PathRow
rows_seen (seen.All rows) remembered = rows
rows_seen (seen.Steps steps) remembered = with_steps steps.items remembered

-- the rows that were remembered before these
abbrev pub rows_before : EarlierRows → List PathRow → Option (List PathRow)
rows_before (earlier.Others rows) latest = rows
rows_before (earlier.Same steps) latest = Some (with_steps steps.items latest)

-- the renderer before it remembered the rows of a tick
abbrev pub before_rows : EarlierRows → Renderer → Renderer
before_rows e r = record r { last_rows = rows_before e (latest_rows r.last_rows) }

-- a tick that sees these rows
abbrev pub tick_over : ℕ → Bool → Renderer → SeenRows × List Message × ℕ → Input
tick_over at show r seen = Tick at show (Some (rows_seen seen.0 (latest_rows r.last_rows), seen.1, seen.2))

-- a tick for which a look returned the steps of the rows that are remembered
abbrev pub steps_tick : ℕ → Bool → Renderer → Vec ℕ × List Message × ℕ → Input
steps_tick at show r seen = Tick at show (Some (with_steps seen.0.items (latest_rows r.last_rows), seen.1, seen.2))

-- a tick whose rows are remembered already, with what was remembered before in their place
abbrev pub tick_at : ℕ → Bool → Renderer → EarlierRows × List Message × ℕ → Input
tick_at at show r seen = Tick at show (Some (latest_rows r.last_rows, seen.1, seen.2))

-- what it does after its messages
abbrev pub action_after : EarlierRows → Renderer → Bool → Bool → Action
action_after e r show printed = tick_action (before_rows e r) show printed (latest_rows r.last_rows)

-- whether it draws the rows
abbrev pub drawn_after : EarlierRows → Renderer → Bool → Bool → Bool
drawn_after e r show printed = is_drawn (before_rows e r) show printed (latest_rows r.last_rows)

-- whether these rows differ from those before, or there were none
abbrev pub changed_after : EarlierRows → List PathRow → Bool
changed_after e latest = rows_changed (rows_before e latest) latest

-- a tick with this action saw the rows that were remembered before it, whichever these were
abbrev pub SawThem : Action → Renderer → Bool → Type 0
SawThem action r show = (before : Option (List PathRow)) (printed : Bool) (rows : List PathRow)
    → action ≡ tick_action (record r { last_rows = before }) show printed rows → before ≡ Some rows

-- the buffer holds its frame
abbrev pub ComposesTick : Renderer → Option FrameTracker → ℕ → Bool → EarlierRows × List Message × ℕ → LineWriter → Type 0
ComposesTick r tracker at show seen out = Composes (before_rows seen.0 r) tracker (tick_at at show r seen) out

-- what the frame leaves if its tracker was `old` and is `new`
abbrev pub LeftAfter : Renderer → Option FrameTracker → ℕ → Bool → EarlierRows × List Message × ℕ → Option FrameTracker → Composed → Type 0
LeftAfter r old at show seen new = LeftByTick (before_rows seen.0 r) old at show (latest_rows r.last_rows, seen.1, seen.2) new

-- the lines that it has kept of its rows are among these bytes
abbrev pub KeepsLatest : Renderer → LineWriter → Drawn → Type 0
KeepsLatest r = KeepsLines r (latest_rows r.last_rows)

-- if it leaves the lines on screen because the rows stay, they were remembered before
abbrev pub LatestStay : Renderer → EarlierRows → Composed → Type 0
LatestStay r e = RowsStay (before_rows e r) (latest_rows r.last_rows)

-- the lines of what was before these rows are those of the rows before
abbrev pub KeepsEarlier : EarlierRows → KeptLines → List PathRow → Type 0
KeepsEarlier e kept latest = AreKept kept (latest_rows (rows_before e latest))
