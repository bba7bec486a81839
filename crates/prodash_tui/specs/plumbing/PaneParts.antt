-- What private calls of panes draw and return.
use Rattle.std.specs.Prelude.{◌≡◌, ℕ, List, String, string_bytes}
use Rattle.std.specs.Global.{Global}
use Rattle.prodash_base.specs.Rows.{progress_of, rows_of}
use Rattle.prodash_base.specs.declared.messages.Message.{Message}
use Rattle.prodash_base.specs.declared.progress.Row.{Row}
use Rattle.prodash_base.specs.declared.progress.Value.{Value}
use Rattle.prodash_core.specs.declared.render.tui.event.Rect.{Rect}
use Rattle.prodash_core.specs.declared.render.tui.state.InterruptMode.{InterruptMode}
use Rattle.prodash_core.specs.declared.render.tui.state.State.{State}
use Rattle.prodash_tui.specs.declared.draw.bounds.Bounds.{Bounds}
use Rattle.prodash_tui.specs.declared.draw.input.Input.{Input}
use Rattle.prodash_tui.specs.declared.draw.progress.lines.Lines.{Lines}
use Rattle.prodash_tui.specs.Dashboards.{with_messages_in, with_panes, with_task_pane}
use Rattle.prodash_tui.specs.Grids.{Sheet}
use Rattle.prodash_tui.specs.Headlines.{headline_text}
use Rattle.prodash_tui.specs.ProgressPanes.{with_overflow, with_row, with_tree_on, with_value}
use Rattle.prodash_tui.specs.Rates.{Rates}

-- the panes of a dashboard in these bounds are drawn
abbrev pub DrawsPanes : Rates → State → Input → Bounds → Sheet → Sheet → Type 0
DrawsPanes rates s input b old new = new ≡ with_panes (with_task_pane rates input s.task_offset) s input b old

-- the messages are drawn in these bounds, if they are shown
abbrev pub DrawsMessagesIn : Bounds → ℕ → List Message → Sheet → Sheet → Type 0
DrawsMessagesIn b offset messages old new = new ≡ with_messages_in b.messages b.window offset messages old

-- a text is the headline of these rows
abbrev pub IsHeadline : InterruptMode → ℕ → List ℕ → List Row → String Global → Type 0
IsHeadline mode ns now rows text = string_bytes text ≡ headline_text mode ns now (rows_of rows)

-- a progress is drawn behind the branches of its line
abbrev pub DrawsValue : Value → List ℕ → Lines → ℕ → Rect → Sheet → Sheet → Type 0
DrawsValue value label lines line behind old new = new ≡ with_value (progress_of value) value.done_at label lines line behind old

-- a row with its throughput is drawn on a line
abbrev pub DrawsRow : List Row → Rates → Lines → ℕ → Sheet → Sheet → Type 0
DrawsRow rows rates lines line old new = new ≡ with_row (rows_of rows) rates lines line old

-- the tree on so many columns is drawn
abbrev pub DrawsTreeOn : ℕ → List Row → Rect → ℕ → Sheet → Sheet → Type 0
DrawsTreeOn columns rows area offset old new = new ≡ with_tree_on columns (rows_of rows) area offset old

-- what is hidden is drawn
abbrev pub DrawsOverflow : List Row → ℕ → ℕ → ℕ → Rect → Sheet → Sheet → Type 0
DrawsOverflow rows offset shown tree area old new = new ≡ with_overflow (rows_of rows) offset shown tree area old
