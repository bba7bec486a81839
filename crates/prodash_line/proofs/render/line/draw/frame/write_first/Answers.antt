use Rattle.std.proofs.Common.{◌≡◌, ℕ, ◌-◌, ◌++◌, List, length, ap, sym, ◌∙◌, append_assoc}
use Rattle.std.specs.Prelude.{max}
use Rattle.std.proofs.lemmas.List.{map-append}
use Rattle.prodash_base.specs.Rows.{rows_of}
use Rattle.prodash_line.specs.Lines.{Line, columns_of}
use Rattle.prodash_line.specs.declared.render.line.draw.layout.Layout.{Layout}
use Rattle.prodash_line.specs.DrawnLines.{layout_of}
use Rattle.prodash_line.specs.Frames.{covered, widths_of}
use Rattle.prodash_line.specs.ProgressRows.{DrawnRow, filtered, row_lines, more_lines, greatest_midpoint}
use Rattle.prodash_line.specs.plumbing.OverwriteBytes.{lines_bytes}
use Rattle.prodash_line.specs.plumbing.Observing.{observe_all, ahead_of}
use Rattle.prodash_line.specs.plumbing.FrameWriting.{times_in, more_of, shown_rows, shown_lines, fitting_shown, fitting_lines}
use Rattle.prodash_line.proofs.KeptLines.{among_first, among_more}
use Rattle.prodash_line.proofs.FittingRows.{fits_first, others_are, observes_both, both_written}
use Rattle.prodash_line.proofs.render.line.draw.frame.write_first.Goals as goal

-- the rows that fit are those that are written
fit : (c : goal.In_ok-write_more) → fitting_shown c.args.scene.now.options (ahead_of c.args.tracker.now) c.args.scene.now.rows.now ≡ shown_rows c.args.scene.now.options (ahead_of c.args.tracker.now) c.args.parts.0.now
fit c = fits_first c.args.scene.now.options (ahead_of c.args.tracker.now) c.args.scene.now.rows.now c.args.parts.0.now c.args.parts.1.now c.requires.split c.requires.first

lines : (c : goal.In_ok-write_more) → fitting_lines c.args.scene.now.options c.args.scene.now.past.now.midpoint (times_in c.args.scene.now) (ahead_of c.args.tracker.now) c.args.scene.now.rows.now
    ≡ shown_lines c.args.scene.now.options c.args.scene.now.past.now.midpoint (times_in c.args.scene.now) (ahead_of c.args.tracker.now) c.args.parts.0.now ++ more_of c.args.scene.now.options c.args.parts.1.now
lines c =
    let options = c.args.scene.now.options in
    let all = shown_rows options (ahead_of c.args.tracker.now) c.args.scene.now.rows.now in
    let own = fitting_shown options (ahead_of c.args.tracker.now) c.args.scene.now.rows.now in
    ap (λ (rs : List DrawnRow). row_lines options c.args.scene.now.past.now.midpoint (times_in c.args.scene.now) rs ++ more_lines options (length all - length own)) (fit c)
    ∙ ap (λ (n : ℕ). shown_lines options c.args.scene.now.past.now.midpoint (times_in c.args.scene.now) (ahead_of c.args.tracker.now) c.args.parts.0.now ++ more_lines options n)
    (others_are options (ahead_of c.args.tracker.now) c.args.scene.now.rows.now c.args.parts.0.now c.args.parts.1.now c.requires.split c.requires.first)

pub returns-clause-bytes : goal.returns-clause-bytes
returns-clause-bytes c =
    let options = c.args.scene.now.options in
    let layout = layout_of options in
    let shown = shown_lines options c.args.scene.now.past.now.midpoint (times_in c.args.scene.now) (ahead_of c.args.tracker.now) c.args.parts.0.now in
    let before = c.args.out.now.bytes in
    both_written layout options options.level_filter c.args.widths.now c.args.scene.now.rows.now c.args.parts.0.now c.args.parts.1.now shown before _ _ c.requires.split
    (c.in_ok-lines.ensures.written.bytes ∙ ap (λ (ws : List ℕ). before ++ lines_bytes layout ws shown)
    (c.covered_widths-covered.ensures ∙ ap (λ (l : Layout). covered l c.args.widths.now) c.layout-layout.ensures))
    c.in_ok-write_more.ensures.bytes
    ∙ ap (λ (ls : List Line). before ++ lines_bytes layout (covered layout c.args.widths.now) ls) (sym (lines c))

pub returns-clause-drawn : goal.returns-clause-drawn
returns-clause-drawn c =
    let options = c.args.scene.now.options in
    let old = c.args.drawn.now in
    let shown = shown_lines options c.args.scene.now.past.now.midpoint (times_in c.args.scene.now) (ahead_of c.args.tracker.now) c.args.parts.0.now in
    let more = more_of options c.args.parts.1.now in
    record {
      widths = c.in_ok-write_more.ensures.drawn.widths
          ∙ ap (λ (ws : List ℕ). ws ++ widths_of more) c.in_ok-lines.ensures.written.drawn.widths
          ∙ append_assoc old.widths.items (widths_of shown) (widths_of more)
          ∙ ap (λ (ws : List ℕ). old.widths.items ++ ws) (sym (map-append columns_of shown more) ∙ ap widths_of (sym (lines c)));
      midpoint = c.in_ok-write_more.ensures.drawn.midpoint ∙ c.in_ok-lines.ensures.written.drawn.midpoint
          ∙ ap (λ (rs : List DrawnRow). max old.midpoint (greatest_midpoint options.defensive rs)) (sym (fit c));
      rows_erased = c.in_ok-write_more.ensures.drawn.rows_erased ∙ c.in_ok-lines.ensures.written.drawn.rows_erased;
      action = c.in_ok-write_more.ensures.drawn.action ∙ c.in_ok-lines.ensures.written.drawn.action;
    }

pub returns-clause-observed : goal.returns-clause-observed
returns-clause-observed c =
    let levels = c.args.scene.now.options.level_filter in
    c.in_ok-write_more.ensures.observed
    ∙ ap (λ t. observe_all t (filtered levels (rows_of c.args.parts.1.now))) c.in_ok-lines.ensures.written.observed
    ∙ observes_both levels (ahead_of c.args.tracker.now) c.args.scene.now.rows.now c.args.parts.0.now c.args.parts.1.now c.requires.split.whole

pub returns-clause-lines : goal.returns-clause-lines
returns-clause-lines c =
    let scene = c.args.scene.now in
    among_more scene.options scene.past.now.midpoint (rows_of scene.rows.now) c.write_shown.new.out.bytes _ c.write_more.new.out.bytes _ c.in_ok-write_more.ensures.bytes
    (among_first scene.options scene.past.now.midpoint scene.rows.now c.args.parts.0.now c.args.parts.1.now c.write_shown.new.out.bytes _ c.requires.split.whole c.in_ok-lines.ensures.lines)
