-- Rows that are written over the lines on screen, one after another.
use Rattle.std.proofs.Common.{rules, arith, ◌≡◌, ◌≤◌, ℕ, Bool, false, cond, List, [], ◌∷◌, ◌++◌, ◌+◌, ◌-◌, drop, length, max, refl, ap, sym, ◌∙◌, append_assoc, Option, None, Some}
use Rattle.std.specs.Prelude.{slice_get}
use Rattle.std.proofs.lemmas.List.{append-nil, at_drop_all}
use Rattle.std.proofs.lemmas.List.Elements.{All-append, All-cons}
use Rattle.std.proofs.lemmas.Option.{get_or_from_slice_get, slice_get_within}
use Rattle.prodash_base.specs.FrameTrackers.{FrameTracker}
use Rattle.prodash_base.specs.Rows.{PathRow, row_of, rows_of}
use Rattle.prodash_base.specs.declared.progress.Row.{Row}
use Rattle.prodash_base.specs.declared.unit.display.Throughput.{Throughput}
use Rattle.prodash_line.specs.DrawnLines.{layout_of}
use Rattle.prodash_line.specs.Frames.{first_width, row_start, widths_of}
use Rattle.prodash_line.specs.Lines.{Line, columns_of}
use Rattle.prodash_line.specs.ProgressRows.{DrawnRow, drawn_row_line, filtered, greatest_midpoint, is_row_drawn, midpoint_of, row_lines, times_at}
use Rattle.prodash_line.specs.Signs.{spelling}
use Rattle.prodash_line.specs.Tracking.{kept_of}
use Rattle.prodash_line.specs.declared.render.line.draw.action.Drawn.{Drawn}
use Rattle.prodash_line.specs.declared.render.line.draw.frame.Scene.{Scene}
use Rattle.prodash_line.specs.declared.render.line.draw.latest_rows.LineSize.{LineSize}
use Rattle.prodash_line.specs.declared.render.line.draw.latest_rows.RowLine.{RowLine}
use Rattle.prodash_line.specs.declared.render.line.draw.line_writer.LineWriter.{LineWriter}
use Rattle.prodash_line.specs.plumbing.FrameWriting.{shown_rows, times_in}
use Rattle.prodash_line.specs.plumbing.KeptLines.{IsAmong, IsSizeOf, bytes_over, kept_line, own_bytes, untimed_line}
use Rattle.prodash_line.specs.plumbing.Observing.{ahead_of, observe_all, observe_by, shown_by, throughput_by}
use Rattle.prodash_line.specs.plumbing.OverwriteBytes.{lines_bytes, overwrite_line_bytes, row_end}
use Rattle.prodash_line.specs.plumbing.Writing.{line_bytes}
use Rattle.prodash_line.specs.plumbing.WrittenRows.{ComesTo, KeepsRun, RowsLeft, WritesRows, left_at, lines_in, shown_left}
use Rattle.prodash_line.proofs.KeptLines.{among_last, among_more, dropped_from, filtered_from, own_joined}

-- what comes to the same as what comes to the same
pub comes_on : (scene : Scene) (first now next : RowsLeft) → ComesTo scene first now → ComesTo scene now next → ComesTo scene first next
comes_on scene first now next a b = record {
  bytes = b.bytes ∙ a.bytes;
  widths = b.widths ∙ a.widths;
  midpoint = b.midpoint ∙ a.midpoint;
  ahead = b.ahead ∙ a.ahead;
  kept = b.kept ∙ a.kept;
  rows_erased = b.rows_erased ∙ a.rows_erased;
  action = b.action ∙ a.action;
}

-- the line of a row of a scene with its throughput
abbrev pub line_in : Scene → DrawnRow → Line
line_in scene drawn = drawn_row_line scene.options scene.past.now.midpoint (times_in scene) drawn

-- a row has been written, and others are left
pub row_written : (scene : Scene) (now next : RowsLeft) (row : Row) (throughput : Option Throughput)
    → filtered scene.options.level_filter (rows_of now.rows) ≡ row_of row ∷ filtered scene.options.level_filter (rows_of next.rows)
    → throughput ≡ throughput_by (ahead_of now.tracker) (row_of row)
    → ahead_of next.tracker ≡ observe_by (ahead_of now.tracker) (row_of row)
    → kept_of next.tracker ≡ kept_of now.tracker
    → next.widths ≡ drop 1 now.widths
    → next.bytes ≡ now.bytes ++ (own_bytes scene.options (line_in scene (row_of row, throughput)) ++ row_end (first_width now.widths - columns_of (line_in scene (row_of row, throughput))))
    → next.drawn.widths.items ≡ now.drawn.widths.items ++ columns_of (line_in scene (row_of row, throughput)) ∷ []
    → next.drawn.midpoint ≡ max now.drawn.midpoint (midpoint_of scene.options.defensive (row_of row, throughput))
    → next.drawn.rows_erased ≡ now.drawn.rows_erased
    → next.drawn.action ≡ now.drawn.action
    → ComesTo scene now next
row_written scene now next row throughput rows known observed kept left bytes widths midpoint erased action =
    let o = scene.options in
    let drawn : DrawnRow = (row_of row, throughput) in
    let line = line_in scene drawn in
    let lines = lines_in scene next.tracker next.rows in
    let rest = lines_bytes (layout_of o) next.widths lines in
    let shown : shown_left scene now ≡ drawn ∷ shown_left scene next = search (rules, rows, known, observed) in
    let all : lines_in scene now.tracker now.rows ≡ line ∷ lines = ap (row_lines o scene.past.now.midpoint (times_in scene)) shown in
    let joined : next.bytes ++ rest ≡ now.bytes ++ lines_bytes (layout_of o) now.widths (line ∷ lines) =
    own_joined (spelling (row_start (layout_of o))) (line_bytes line) (row_end (first_width now.widths - columns_of line)) rest now.bytes next.bytes bytes
    ∙ ap (λ ws. now.bytes ++ (spelling (row_start (layout_of o)) ++ (overwrite_line_bytes (first_width now.widths) line ++ lines_bytes (layout_of o) ws lines))) left in
    record {
      bytes = joined ∙ ap (λ ls. now.bytes ++ lines_bytes (layout_of o) now.widths ls) (sym all);
      widths = ap (λ (ws : List ℕ). ws ++ widths_of lines) widths ∙ append_assoc now.drawn.widths.items (columns_of line ∷ []) (widths_of lines)
          ∙ ap (λ (ls : List Line). now.drawn.widths.items ++ widths_of ls) (sym all);
      midpoint = search (rules, shown, midpoint);
      ahead = search (rules, rows, observed);
      kept = kept;
      rows_erased = erased;
      action = action;
    }

-- nothing has been written yet
pub starts : (scene : Scene) (first : RowsLeft) → ComesTo scene first first
starts scene first = record { bytes = refl; widths = refl; midpoint = refl; ahead = refl; kept = refl; rows_erased = refl; action = refl }

-- the line of a row follows those that are copied
pub run_written : (scene : Scene) (rows : List Row) (first : RowsLeft) (n : ℕ) (widths others bytes new : List ℕ) (drawn new_drawn : Drawn) (old lines : List RowLine) (tracker : Option FrameTracker) (row : Row) (size : LineSize)
    → scene.timer.now ≡ None → scene.options.level_filter ≡ None → tracker ≡ None → slice_get rows n ≡ Some row
    → IsSizeOf scene.options scene.past.now.midpoint (row_of row, None) size
    → new ≡ bytes ++ bytes_over scene.options (first_width widths) (untimed_line scene.options scene.past.now.midpoint (row_of row, None))
    → others ≡ drop 1 widths
    → new_drawn.widths.items ≡ drawn.widths.items ++ size.width ∷ []
    → new_drawn.midpoint ≡ max drawn.midpoint size.midpoint
    → new_drawn.rows_erased ≡ drawn.rows_erased
    → new_drawn.action ≡ drawn.action
    → KeepsRun scene rows first (left_at rows tracker (n, widths) bytes drawn) old lines
    → KeepsRun scene rows first (left_at rows tracker (n + 1, others) new new_drawn) old (lines ++ kept_line n (length bytes) size ∷ [])
run_written scene rows first n widths others bytes new drawn new_drawn old lines tracker row size untimed all none found is wrote rest wide aligned erased action run =
    let o = scene.options in
    let midpoint = scene.past.now.midpoint in
    let shown : DrawnRow = (row_of row, None) in
    let same : untimed_line o midpoint shown ≡ line_in scene shown = ap (λ timer. drawn_row_line o midpoint (times_at timer scene.at) shown) (sym untimed) in
    let now = left_at rows tracker (n, widths) bytes drawn in
    let next = left_at rows tracker (n + 1, others) new new_drawn in
    let left : filtered o.level_filter (rows_of now.rows) ≡ row_of row ∷ filtered o.level_filter (rows_of next.rows) =
    filtered_from o.level_filter rows n row (slice_get_within rows n row found) (sym (get_or_from_slice_get rows n row row found)) (ap (λ levels. is_row_drawn levels (row_of row)) all) in
    let known : None ≡ throughput_by (ahead_of tracker) (row_of row) = sym (ap (λ t. throughput_by (ahead_of t) (row_of row)) none) in
    let observed : ahead_of tracker ≡ observe_by (ahead_of tracker) (row_of row) = ap ahead_of none ∙ sym (ap (λ t. observe_by (ahead_of t) (row_of row)) none) in
    record {
      written = comes_on scene first now next run.written
          (row_written scene now next row None left known observed refl rest
          (wrote ∙ ap (λ (l : Line). bytes ++ bytes_over o (first_width widths) l) same)
          (wide ∙ ap (λ (w : ℕ). drawn.widths.items ++ w ∷ []) (is.width ∙ ap columns_of same))
          (aligned ∙ ap (max drawn.midpoint) is.midpoint) erased action);
      lines = λ among.
          let last = kept_line n (length bytes) size in
          let own = among_last o midpoint rows bytes new (row_end (first_width widths - columns_of (untimed_line o midpoint shown))) row n size found is wrote in
          let one = All-cons (IsAmong o midpoint (rows_of rows) new) last [] own (λ k d within. absurd (omega arith)) in
          All-append (IsAmong o midpoint (rows_of rows) new) lines (last ∷ []) (among_more o midpoint (rows_of rows) bytes _ new lines wrote (run.lines among)) one;
    }

-- a row that isn't drawn is left out
pub row_left_out : (scene : Scene) (rows : List Row) (first : RowsLeft) (n : ℕ) (widths bytes : List ℕ) (tracker : Option FrameTracker) (drawn : Drawn) (row : Row)
    → slice_get rows n ≡ Some row → is_row_drawn scene.options.level_filter (row_of row) ≡ false
    → ComesTo scene first (left_at rows tracker (n, widths) bytes drawn) → ComesTo scene first (left_at rows tracker (n + 1, widths) bytes drawn)
row_left_out scene rows first n widths bytes tracker drawn row found hidden now =
    let levels = scene.options.level_filter in
    let all = filtered levels (rows_of (drop n rows)) in
    let others = filtered levels (rows_of (drop (n + 1) rows)) in
    let same : others ≡ all =
    sym (ap (λ rs. filtered levels (rows_of rs)) (dropped_from rows n row (slice_get_within rows n row found) (sym (get_or_from_slice_get rows n row row found)))
    ∙ ap (λ (b : Bool). cond b (row_of row ∷ others) others) hidden) in
    let lines = λ (rs : List PathRow). row_lines scene.options scene.past.now.midpoint (times_in scene) (shown_by (ahead_of tracker) rs) in
    record {
      bytes = ap (λ (rs : List PathRow). bytes ++ lines_bytes (layout_of scene.options) widths (lines rs)) same ∙ now.bytes;
      widths = ap (λ (rs : List PathRow). drawn.widths.items ++ widths_of (lines rs)) same ∙ now.widths;
      midpoint = ap (λ (rs : List PathRow). max drawn.midpoint (greatest_midpoint scene.options.defensive (shown_by (ahead_of tracker) rs))) same ∙ now.midpoint;
      ahead = ap (observe_all (ahead_of tracker)) same ∙ now.ahead;
      kept = now.kept;
      rows_erased = now.rows_erased;
      action = now.action;
    }

max_nothing : (n : ℕ) → n ≡ max n 0
max_nothing n = omega arith

-- no row is left
pub all_written : (scene : Scene) (widths : List ℕ) (rows : List Row) (old new : LineWriter) (old_tracker tracker : Option FrameTracker) (old_drawn drawn : Drawn) (n : ℕ) (left : List ℕ)
    → length rows ≤ n
    → ComesTo scene (record { rows = rows; widths = widths; bytes = old.bytes; tracker = old_tracker; drawn = old_drawn }) (left_at rows tracker (n, left) new.bytes drawn)
    → WritesRows scene widths rows old old_tracker old_drawn new tracker drawn
all_written scene widths rows old new old_tracker tracker old_drawn drawn n left past all = record {
  bytes = sym (append-nil new.bytes) ∙ sym (at_drop_all (λ (rs : List Row). new.bytes ++ lines_bytes (layout_of scene.options) left (lines_in scene tracker rs)) rows n past) ∙ all.bytes;
  drawn = record {
    widths = sym (append-nil drawn.widths.items) ∙ sym (at_drop_all (λ (rs : List Row). drawn.widths.items ++ widths_of (lines_in scene tracker rs)) rows n past) ∙ all.widths;
    midpoint = max_nothing drawn.midpoint
        ∙ sym (at_drop_all (λ (rs : List Row). max drawn.midpoint (greatest_midpoint scene.options.defensive (shown_rows scene.options (ahead_of tracker) rs))) rows n past) ∙ all.midpoint;
    rows_erased = all.rows_erased;
    action = all.action;
  };
  observed = sym (at_drop_all (λ (rs : List Row). observe_all (ahead_of tracker) (filtered scene.options.level_filter (rows_of rs))) rows n past) ∙ all.ahead;
}
