use Rattle.std.proofs.Common.{rules, ◌≡◌, ℕ, ◌-◌, ◌++◌, List, length, ap, subst, ◌∙◌, append_assoc, arith, Option}
use Rattle.std.proofs.lemmas.List.{length-map}
use Rattle.std.specs.Option.{option_map}
use Rattle.prodash_base.specs.Rows.{PathRow, rows_of}
use Rattle.prodash_base.specs.Trackers.{Tracker, reconcile}
use Rattle.prodash_line.specs.declared.render.line.draw.action.Action.{Action}
use Rattle.prodash_line.specs.declared.render.line.draw.layout.Layout.{Layout}
use Rattle.prodash_line.specs.Lines.{Line, columns_of}
use Rattle.prodash_line.specs.Signs.{spelling}
use Rattle.prodash_line.specs.DrawnLines.{layout_of}
use Rattle.prodash_line.specs.Frames.{covered, lines_start, widths_of}
use Rattle.prodash_line.specs.ProgressRows.{DrawnRow, filtered, fitting, more_lines, row_lines, greatest_midpoint}
use Rattle.prodash_line.specs.Renderer.{Renderer, drawn_rows, fitting_rows}
use Rattle.prodash_line.specs.plumbing.Observing.{shown_by, observe_all, ahead_of, tracker_by}
use Rattle.prodash_line.specs.Tracking.{kept_of}
use Rattle.prodash_line.specs.plumbing.OverwriteBytes.{lines_bytes}
use Rattle.prodash_line.specs.plumbing.FrameWriting.{times_in, renderer_in, drawing_in, fitting_lines, FinishesRedraw}
use Rattle.prodash_line.proofs.KeptLines.{among_more}
use Rattle.prodash_line.proofs.Observing.{shown_at, observed_at}
use Rattle.prodash_line.proofs.render.line.draw.frame.redraw_rows.Goals as goal

-- the tracker before the frame, and at its beginning
abbrev before : goal.In_ok-finish_redraw → Option Tracker
before c = kept_of c.args.tracker.now

abbrev begun : goal.In_ok-finish_redraw → Option Tracker
begun c = ahead_of c.begin_observing.new.tracker

abbrev renderer : goal.In_ok-finish_redraw → Renderer
renderer c = renderer_in c.args.scene.now (before c)

abbrev filtered_rows : goal.In_ok-finish_redraw → List PathRow
filtered_rows c = filtered c.args.scene.now.options.level_filter (rows_of c.args.scene.now.rows.now)

shown : (c : goal.In_ok-finish_redraw)
    → shown_by (begun c) (filtered_rows c) ≡ drawn_rows (renderer c) c.args.scene.now.at (rows_of c.args.scene.now.rows.now)
shown c = ap (λ t. shown_by t (filtered_rows c)) c.begin_observing.ensures.ahead ∙ shown_at (before c) c.args.scene.now.at (filtered_rows c)

lines : (c : goal.In_ok-finish_redraw)
    → fitting_lines c.args.scene.now.options c.args.scene.now.past.now.midpoint (times_in c.args.scene.now) (begun c) c.args.scene.now.rows.now ≡ (drawing_in c.args.scene.now (before c)).lines
lines c =
    let options = c.args.scene.now.options in
    let layout = layout_of options in
    ap (λ (rows : List DrawnRow). row_lines options c.args.scene.now.past.now.midpoint (times_in c.args.scene.now) (fitting options rows) ++ more_lines options (length rows - length (fitting options rows))) (shown c)

widths_are : (c : goal.In_ok-finish_redraw) → c.write_fitting.new.drawn.widths.items ≡ widths_of (drawing_in c.args.scene.now (before c)).lines
widths_are c =
    c.in_ok-drawn.ensures.drawn.widths
    ∙ ap (λ (old : List ℕ). old ++ widths_of (fitting_lines c.args.scene.now.options c.args.scene.now.past.now.midpoint (times_in c.args.scene.now) (begun c) c.args.scene.now.rows.now)) c.in_ok-with_capacity.ensures.items
    ∙ ap widths_of (lines c)

pub returns-clause-bytes : goal.returns-clause-bytes
returns-clause-bytes c =
    let drawn = (drawing_in c.args.scene.now (before c)).lines in
    let layout = layout_of c.args.scene.now.options in
    let over = lines_bytes layout (covered layout c.args.widths.now) drawn in
    let finishes = subst (λ (l : Layout). FinishesRedraw l c.write_fitting.new.out c.args.widths.now c.len.result c.finish_redraw.new.out) c.layout-layout.ensures c.in_ok-finish_redraw.ensures.redraw in
    finishes c.args.out.now.bytes drawn
    (search (rules, ap length (widths_are c), length-map drawn columns_of))
    (c.in_ok-drawn.ensures.bytes
    ∙ ap (λ (ls : List Line). c.start_lines.new.out.bytes ++ lines_bytes layout (covered layout c.args.widths.now) ls) (lines c)
    ∙ ap (λ (t : List ℕ). t ++ over) (c.in_ok-start_lines.ensures ∙ ap (λ (l : Layout). c.args.out.now.bytes ++ spelling (lines_start l)) c.layout-layout.ensures)
    ∙ append_assoc c.args.out.now.bytes (spelling (lines_start layout)) over)

pub returns-clause-state : goal.returns-clause-state
returns-clause-state c =
    let at = c.args.scene.now.at in
    let rows = rows_of c.args.scene.now.rows.now in
    let layout = layout_of c.args.scene.now.options in
    let widths = widths_are c in
    let action = c.in_ok-drawn.ensures.drawn.action in
    let midpoint : c.write_fitting.new.drawn.midpoint ≡ greatest_midpoint c.args.scene.now.options.defensive (fitting_rows (renderer c) at rows) =
    omega (arith, c.in_ok-drawn.ensures.drawn.midpoint, ap (λ (rs : List DrawnRow). greatest_midpoint c.args.scene.now.options.defensive (fitting c.args.scene.now.options rs)) (shown c)) in
    let tracker =
    ap (λ (a : Action). tracker_by a c.write_fitting.new.tracker rows) action
    ∙ ap (λ t. option_map (λ t. reconcile t rows) t) (c.in_ok-drawn.ensures.observed
    ∙ ap (λ t. observe_all t (filtered_rows c)) c.begin_observing.ensures.ahead)
    ∙ observed_at (before c) at (filtered_rows c) rows in
    let erased = c.in_ok-drawn.ensures.drawn.rows_erased in
    record {
      state = λ i. record { widths = widths i; midpoint = midpoint i; tracker = tracker i; rows_erased = erased i };
      action = action;
    }

pub returns-clause-lines : goal.returns-clause-lines
returns-clause-lines c =
    let scene = c.args.scene.now in
    among_more scene.options scene.past.now.midpoint (rows_of scene.rows.now) c.write_fitting.new.out.bytes _ c.finish_redraw.new.out.bytes _ c.in_ok-finish_redraw.ensures.kept.bytes
    c.in_ok-drawn.ensures.lines
