-- Rows that are written over the lines on screen, one after another.
use Rattle.std.specs.Prelude.{◌≡◌, ◌<◌, ℕ, List, ◌++◌, drop, slice_get, Option, None, Some, max}
use Rattle.prodash_base.specs.FrameTrackers.{FrameTracker}
use Rattle.prodash_base.specs.Rows.{row_of, rows_of}
use Rattle.prodash_base.specs.declared.progress.Row.{Row}
use Rattle.prodash_line.specs.declared.render.line.draw.action.Drawn.{Drawn}
use Rattle.prodash_line.specs.declared.render.line.draw.frame.Scene.{Scene}
use Rattle.prodash_line.specs.declared.render.line.draw.latest_rows.LineSize.{LineSize}
use Rattle.prodash_line.specs.declared.render.line.draw.latest_rows.RowLine.{RowLine}
use Rattle.prodash_line.specs.declared.render.line.draw.line_copier.LineCopier.{LineCopier}
use Rattle.prodash_line.specs.declared.render.line.draw.line_copier.NextRow.{NextRow}
use Rattle.prodash_line.specs.declared.render.line.draw.line_writer.LineWriter.{LineWriter}
use Rattle.prodash_line.specs.DrawnLines.{layout_of}
use Rattle.prodash_line.specs.Frames.{first_width, widths_of}
use Rattle.prodash_line.specs.Lines.{Line}
use Rattle.prodash_line.specs.ProgressRows.{DrawnRow, filtered, greatest_midpoint}
use Rattle.prodash_line.specs.Tracking.{kept_of}
use Rattle.prodash_line.specs.plumbing.FrameWriting.{AppendsOver, DrawsRows, shown_lines, shown_rows, times_in}
use Rattle.prodash_line.specs.plumbing.KeptLines.{AreAmong}
use Rattle.prodash_line.specs.plumbing.LineCopying.{HasLeft, IsNext}
use Rattle.prodash_line.specs.plumbing.Observing.{ObservesDrawn, ahead_of, observe_all}
use Rattle.prodash_line.specs.plumbing.OverwriteBytes.{lines_bytes}

-- the lines of these rows of a scene that are drawn, if this tracker observes them
abbrev pub lines_in : Scene → Option FrameTracker → List Row → List Line
lines_in scene tracker rows = shown_lines scene.options scene.past.now.midpoint (times_in scene) (ahead_of tracker) rows

-- these rows of a scene have been written over lines on screen of these widths, drawn besides those of old, and observed
pub record WritesRows (scene : Scene) (widths : List ℕ) (rows : List Row) (old : LineWriter) (old_tracker : Option FrameTracker) (old_drawn : Drawn) (new : LineWriter) (new_tracker : Option FrameTracker) (new_drawn : Drawn) : Type 0 where
  pub bytes : AppendsOver (layout_of scene.options) old widths (lines_in scene old_tracker rows) new
  pub drawn : DrawsRows scene old_tracker rows old_drawn new_drawn
  pub observed : ObservesDrawn scene.options rows old_tracker new_tracker

-- rows that are to be written over lines on screen of these widths, and what has been written, drawn and observed before them
pub record RowsLeft : Type 0 where
  pub rows : List Row
  pub widths : List ℕ
  pub bytes : List ℕ
  pub tracker : Option FrameTracker
  pub drawn : Drawn

-- the rows of a scene that are left, as they are drawn
abbrev pub shown_left : Scene → RowsLeft → List DrawnRow
shown_left scene left = shown_rows scene.options (ahead_of left.tracker) left.rows

-- all bytes once they are written
abbrev pub bytes_after : Scene → RowsLeft → List ℕ
bytes_after scene left = left.bytes ++ lines_bytes (layout_of scene.options) left.widths (lines_in scene left.tracker left.rows)

-- the widths of all lines
abbrev pub widths_after : Scene → RowsLeft → List ℕ
widths_after scene left = left.drawn.widths.items ++ widths_of (lines_in scene left.tracker left.rows)

-- and the greatest midpoint
abbrev pub midpoint_after : Scene → RowsLeft → ℕ
midpoint_after scene left = max left.drawn.midpoint (greatest_midpoint scene.options.defensive (shown_left scene left))

-- once the rows that are left now are written, all is as if those that were left at first had been
pub record ComesTo (scene : Scene) (first now : RowsLeft) : Type 0 where
  pub bytes : bytes_after scene now ≡ bytes_after scene first
  pub widths : widths_after scene now ≡ widths_after scene first
  pub midpoint : midpoint_after scene now ≡ midpoint_after scene first
  pub ahead : observe_all (ahead_of now.tracker) (filtered scene.options.level_filter (rows_of now.rows))
      ≡ observe_all (ahead_of first.tracker) (filtered scene.options.level_filter (rows_of first.rows))
  pub kept : kept_of now.tracker ≡ kept_of first.tracker
  pub rows_erased : now.drawn.rows_erased ≡ first.drawn.rows_erased
  pub action : now.drawn.action ≡ first.drawn.action

-- the rows from an index on are left
abbrev pub left_at : List Row → Option FrameTracker → ℕ × List ℕ → List ℕ → Drawn → RowsLeft
left_at rows tracker at bytes drawn = record { rows = drop at.0 rows; widths = at.1; bytes = bytes; tracker = tracker; drawn = drawn }

-- rows of a scene have been written, and the lines that are kept are among the bytes
pub record KeepsRun (scene : Scene) (rows : List Row) (first now : RowsLeft) (old new : List RowLine) : Type 0 where
  pub written : ComesTo scene first now
  pub lines : AreAmong scene.options scene.past.now.midpoint (rows_of rows) first.bytes old → AreAmong scene.options scene.past.now.midpoint (rows_of rows) now.bytes new

-- the same in each scene without times that has these levels and what a copier has left
abbrev pub KeepsRunIn : Option FrameTracker → Option (ℕ × ℕ) → List Row → LineCopier → RowsLeft → RowsLeft → List RowLine → Type 0
KeepsRunIn tracker levels rows copier first now lines =
    (scene : Scene) → scene.timer.now ≡ None → scene.options.level_filter ≡ levels → HasLeft scene.options scene.past.now.midpoint copier
    → KeepsRun scene rows first now copier.lines.0 lines

-- the rows from one index up to another have been copied
abbrev pub CopiesRun : Option FrameTracker → Option (ℕ × ℕ) → List Row → NextRow → LineCopier → Drawn → LineCopier → Drawn → NextRow → Type 0
CopiesRun tracker levels rows at old old_drawn new new_drawn next =
    KeepsRunIn tracker levels rows old (left_at rows tracker (at.index, at.widths.now) old.bytes.0 old_drawn) (left_at rows tracker (next.index, next.widths.now) new.bytes.0 new_drawn) new.lines.0

-- the line of this row follows those that are copied
pub record FollowsRun (copier : LineCopier) (rows : List Row) (n : ℕ) (widths : List ℕ) (start : ℕ) (size : LineSize) : Type 0 where
  pub row : Row
  pub found : slice_get rows n ≡ Some row
  pub line : IsNext copier start (row_of row) (first_width widths) size
  pub index : n < 18446744073709551615
