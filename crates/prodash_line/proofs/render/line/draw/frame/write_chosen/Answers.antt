use Rattle.std.proofs.Common.{rules, arith, ◌≡◌, ℕ, List, [], ◌+◌, ◌∷◌, ◌++◌, drop, max, ap, sym, ◌∙◌, append_assoc}
use Rattle.std.proofs.lemmas.Grind.{common_steps}
use Rattle.prodash_base.specs.Rows.{row_of, rows_of}
use Rattle.prodash_base.specs.declared.progress.Row.{Row}
use Rattle.prodash_line.specs.RowRanks.{rank_of}
use Rattle.prodash_line.specs.declared.render.line.draw.action.Drawn.{Drawn}
use Rattle.prodash_line.specs.declared.render.line.draw.line_writer.LineWriter.{LineWriter}
use Rattle.prodash_line.specs.DrawnLines.{as_drawn, layout_of}
use Rattle.prodash_line.specs.Frames.{widths_of}
use Rattle.prodash_line.specs.Lines.{Line, columns_of}
use Rattle.prodash_line.specs.ProgressRows.{DrawnRow, filtered, row_line, row_lines, midpoint_of, greatest_midpoint}
use Rattle.prodash_line.specs.plumbing.Observing.{observe_all, ahead_of}
use Rattle.prodash_line.specs.plumbing.OverwriteBytes.{lines_bytes}
use Rattle.prodash_line.specs.plumbing.FrameWriting.{times_in, chosen_rows}
use Rattle.prodash_line.proofs.FittingRows.{chosen_next, chosen_passed, max_assoc, rest_whole}
use Rattle.prodash_line.proofs.OverwriteBytes.{lines_bytes-append}
use Rattle.prodash_line.proofs.render.line.draw.frame.write_chosen.Goals as goal
use Rattle.prodash_line.proofs.render.line.draw.frame.write_chosen.Goals.{then-take+in_ok-write_row, else-take}

pub loop-n-preserved : goal.loop-n-preserved
loop-n-preserved c =
    let scene = c.args.scene.now in
    let o = scene.options in
    let old = c.loop-n.out.bytes in
    let layout = layout_of o in
    let midpoint = scene.past.now.midpoint in
    let times = times_in scene in
    let others = drop (c.loop-n.n + 1) scene.rows.now in
    let row = row_of c.index-rows-n.result in
    let after = filtered o.level_filter (rows_of others) in
    let rows : filtered o.level_filter (rows_of (drop c.loop-n.n scene.rows.now)) ≡ row ∷ after = grind (arith, common_steps) in
    let ranked : c.rank_of.result ≡ rank_of row after = c.rank_of.ensures ∙ ap (λ (rs : List Row). rank_of row (filtered o.level_filter (rows_of rs))) (rest_whole scene.rows.now (c.loop-n.n + 1)) in
    let rest = chosen_rows o c.take.new.self (ahead_of c.observe_row.new.tracker) others in
    let lines = row_lines o midpoint times rest in
    let ahead =
    ap (λ t. observe_all t after) c.in_ok-throughput.ensures.observed
    ∙ sym (ap (observe_all (ahead_of c.loop-n.tracker)) rows) ∙ c.loop-n.invariant.ahead in
    let kept = c.in_ok-throughput.ensures.kept ∙ c.loop-n.invariant.kept in
    elim c.if-take.branch [
      | then-take+in_ok-write_row w ↦
          (let next : chosen_rows o c.loop-n.quotas (ahead_of c.loop-n.tracker) (drop c.loop-n.n scene.rows.now) ≡ (row, c.in_ok-throughput.throughput) ∷ rest =
          chosen_next o c.loop-n.quotas c.take.new.self (ahead_of c.loop-n.tracker) (ahead_of c.observe_row.new.tracker) (drop c.loop-n.n scene.rows.now) others row
          c.in_ok-throughput.throughput c.rank_of.result rows ranked c.in_ok-throughput.ensures.value c.in_ok-throughput.ensures.observed c.take.ensures.quotas (search rules) in
          let line : Line = as_drawn o (row_line o.defensive o.terminal_dimensions.0 o.bar_columns midpoint (row, c.in_ok-throughput.throughput) (times row)) in
          record {
            bytes = ap (λ (it : LineWriter). it.bytes ++ lines_bytes layout [] lines) w.out-is
                ∙ ap (λ (t : List ℕ). t ++ lines_bytes layout [] lines) w.in_ok-write_row.ensures.bytes
                ∙ append_assoc old (lines_bytes layout [] (line ∷ [])) (lines_bytes layout [] lines)
                ∙ ap (λ (t : List ℕ). old ++ t) (sym (lines_bytes-append layout [] (line ∷ []) lines))
                ∙ ap (λ (rs : List DrawnRow). old ++ lines_bytes layout [] (row_lines o midpoint times rs)) (sym next)
                ∙ c.loop-n.invariant.bytes;
            widths = ap (λ (it : Drawn). it.widths.items ++ widths_of lines) w.drawn-is
                ∙ ap (λ (ws : List ℕ). ws ++ widths_of lines) w.in_ok-write_row.ensures.drawn.widths
                ∙ append_assoc c.loop-n.drawn.widths.items (columns_of line ∷ []) (widths_of lines)
                ∙ ap (λ (rs : List DrawnRow). c.loop-n.drawn.widths.items ++ widths_of (row_lines o midpoint times rs)) (sym next)
                ∙ c.loop-n.invariant.widths;
            midpoint = ap (λ (it : Drawn). max it.midpoint (greatest_midpoint o.defensive rest)) w.drawn-is
                ∙ ap (λ (n : ℕ). max n (greatest_midpoint o.defensive rest)) w.in_ok-write_row.ensures.drawn.midpoint
                ∙ max_assoc c.loop-n.drawn.midpoint (midpoint_of o.defensive (row, c.in_ok-throughput.throughput)) (greatest_midpoint o.defensive rest)
                ∙ ap (λ (rs : List DrawnRow). max c.loop-n.drawn.midpoint (greatest_midpoint o.defensive rs)) (sym next)
                ∙ c.loop-n.invariant.midpoint;
            ahead = ahead;
            kept = kept;
            rows_erased = ap (λ (it : Drawn). it.rows_erased) w.drawn-is ∙ w.in_ok-write_row.ensures.drawn.rows_erased ∙ c.loop-n.invariant.rows_erased;
            action = ap (λ (it : Drawn). it.action) w.drawn-is ∙ w.in_ok-write_row.ensures.drawn.action ∙ c.loop-n.invariant.action;
          })
      | else-take w ↦
          (let passed : chosen_rows o c.loop-n.quotas (ahead_of c.loop-n.tracker) (drop c.loop-n.n scene.rows.now) ≡ rest =
          chosen_passed o c.loop-n.quotas c.take.new.self (ahead_of c.loop-n.tracker) (ahead_of c.observe_row.new.tracker) (drop c.loop-n.n scene.rows.now) others row
          c.rank_of.result rows ranked c.in_ok-throughput.ensures.observed c.take.ensures.quotas (search rules) in
          record {
            bytes = ap (λ (it : LineWriter). it.bytes ++ lines_bytes layout [] lines) w.out-is
                ∙ ap (λ (rs : List DrawnRow). old ++ lines_bytes layout [] (row_lines o midpoint times rs)) (sym passed)
                ∙ c.loop-n.invariant.bytes;
            widths = ap (λ (it : Drawn). it.widths.items ++ widths_of lines) w.drawn-is
                ∙ ap (λ (rs : List DrawnRow). c.loop-n.drawn.widths.items ++ widths_of (row_lines o midpoint times rs)) (sym passed)
                ∙ c.loop-n.invariant.widths;
            midpoint = ap (λ (it : Drawn). max it.midpoint (greatest_midpoint o.defensive rest)) w.drawn-is
                ∙ ap (λ (rs : List DrawnRow). max c.loop-n.drawn.midpoint (greatest_midpoint o.defensive rs)) (sym passed)
                ∙ c.loop-n.invariant.midpoint;
            ahead = ahead;
            kept = kept;
            rows_erased = ap (λ (it : Drawn). it.rows_erased) w.drawn-is ∙ c.loop-n.invariant.rows_erased;
            action = ap (λ (it : Drawn). it.action) w.drawn-is ∙ c.loop-n.invariant.action;
          })
    ]
