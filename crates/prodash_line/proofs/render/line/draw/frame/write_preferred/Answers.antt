use Rattle.std.proofs.Common.{◌≡◌, ℕ, ◌-◌, List, [], ◌++◌, length, true, ap, sym, ◌∙◌, append_assoc}
use Rattle.std.specs.Prelude.{max}
use Rattle.std.proofs.lemmas.List.{map-append}
use Rattle.prodash_line.specs.Lines.{Line, columns_of}
use Rattle.prodash_line.specs.DrawnLines.{erases_rows, layout_of}
use Rattle.prodash_line.specs.Frames.{widths_of}
use Rattle.prodash_line.specs.ProgressRows.{DrawnRow, row_lines, more_lines, greatest_midpoint}
use Rattle.prodash_line.specs.plumbing.OverwriteBytes.{lines_bytes}
use Rattle.prodash_line.specs.plumbing.Observing.{ahead_of}
use Rattle.prodash_line.specs.plumbing.FrameWriting.{times_in, more_of, shown_rows, chosen_rows, quotas_for, fitting_shown, fitting_lines}
use Rattle.prodash_line.proofs.FittingRows.{fits_preferred, others_preferred, lines_joined, none_covered, first_true, second_true}
use Rattle.prodash_line.proofs.render.line.draw.frame.write_preferred.Goals as goal

-- the rows that are chosen
abbrev chosen : goal.In_ok-write_hidden → List DrawnRow
chosen c =
    chosen_rows c.args.scene.now.options (quotas_for c.args.scene.now.options.level_filter c.args.scene.now.rows.now c.count_drawn-most.result) (ahead_of c.args.tracker.now) c.args.scene.now.rows.now

prefers : (c : goal.In_ok-write_hidden) → c.args.scene.now.options.prefer_running ≡ true
prefers c = first_true c.args.scene.now.options.prefer_running (erases_rows c.args.scene.now.options) c.requires.preferred

-- they are those that fit
fit : (c : goal.In_ok-write_hidden) → fitting_shown c.args.scene.now.options (ahead_of c.args.tracker.now) c.args.scene.now.rows.now ≡ chosen c
fit c =
    let o = c.args.scene.now.options in
    let rows = c.args.scene.now.rows.now in
    fits_preferred o (ahead_of c.args.tracker.now) rows c.args.parts.0.now c.args.parts.1.now c.requires.split (prefers c)
    ∙ ap (λ (n : ℕ). chosen_rows o (quotas_for o.level_filter rows n) (ahead_of c.args.tracker.now) rows) (sym c.count_drawn-most.ensures)

lines : (c : goal.In_ok-write_hidden) → fitting_lines c.args.scene.now.options c.args.scene.now.past.now.midpoint (times_in c.args.scene.now) (ahead_of c.args.tracker.now) c.args.scene.now.rows.now
    ≡ row_lines c.args.scene.now.options c.args.scene.now.past.now.midpoint (times_in c.args.scene.now) (chosen c) ++ more_of c.args.scene.now.options c.args.parts.1.now
lines c =
    let o = c.args.scene.now.options in
    let all = shown_rows o (ahead_of c.args.tracker.now) c.args.scene.now.rows.now in
    let own = fitting_shown o (ahead_of c.args.tracker.now) c.args.scene.now.rows.now in
    ap (λ (rs : List DrawnRow). row_lines o c.args.scene.now.past.now.midpoint (times_in c.args.scene.now) rs ++ more_lines o (length all - length own)) (fit c)
    ∙ ap (λ (n : ℕ). row_lines o c.args.scene.now.past.now.midpoint (times_in c.args.scene.now) (chosen c) ++ more_lines o n)
    (others_preferred o (ahead_of c.args.tracker.now) c.args.scene.now.rows.now c.args.parts.0.now c.args.parts.1.now c.requires.split)

pub returns-clause-bytes : goal.returns-clause-bytes
returns-clause-bytes c = λ widths.
    let o = c.args.scene.now.options in
    let layout = layout_of o in
    let shown = row_lines o c.args.scene.now.past.now.midpoint (times_in c.args.scene.now) (chosen c) in
    let more = more_of o c.args.parts.1.now in
    let before = c.args.out.now.bytes in
    let all = fitting_lines o c.args.scene.now.past.now.midpoint (times_in c.args.scene.now) (ahead_of c.args.tracker.now) c.args.scene.now.rows.now in
    c.in_ok-write_hidden.ensures.bytes
    ∙ ap (λ (t : List ℕ). t ++ lines_bytes layout [] more) c.in_ok-write_chosen.ensures.bytes
    ∙ append_assoc before (lines_bytes layout [] shown) (lines_bytes layout [] more)
    ∙ ap (λ (t : List ℕ). before ++ t) (sym (lines_joined layout shown more))
    ∙ ap (λ (ls : List Line). before ++ lines_bytes layout [] ls) (sym (lines c))
    ∙ ap (λ (ws : List ℕ). before ++ lines_bytes layout ws all) (sym (none_covered o widths (second_true o.prefer_running (erases_rows o) c.requires.preferred)))

pub returns-clause-drawn : goal.returns-clause-drawn
returns-clause-drawn c =
    let o = c.args.scene.now.options in
    let old = c.args.drawn.now in
    let shown = row_lines o c.args.scene.now.past.now.midpoint (times_in c.args.scene.now) (chosen c) in
    let more = more_of o c.args.parts.1.now in
    record {
      widths = c.in_ok-write_hidden.ensures.drawn.widths
          ∙ ap (λ (ws : List ℕ). ws ++ widths_of more) c.in_ok-write_chosen.ensures.drawn.widths
          ∙ append_assoc old.widths.items (widths_of shown) (widths_of more)
          ∙ ap (λ (ws : List ℕ). old.widths.items ++ ws) (sym (map-append columns_of shown more) ∙ ap widths_of (sym (lines c)));
      midpoint = c.in_ok-write_hidden.ensures.drawn.midpoint ∙ c.in_ok-write_chosen.ensures.drawn.midpoint
          ∙ ap (λ (rs : List DrawnRow). max old.midpoint (greatest_midpoint o.defensive rs)) (sym (fit c));
      rows_erased = c.in_ok-write_hidden.ensures.drawn.rows_erased ∙ c.in_ok-write_chosen.ensures.drawn.rows_erased;
      action = c.in_ok-write_hidden.ensures.drawn.action ∙ c.in_ok-write_chosen.ensures.drawn.action;
    }
