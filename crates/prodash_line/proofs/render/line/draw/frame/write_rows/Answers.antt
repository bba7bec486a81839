-- proofs/render/line/draw/frame/write_rows/Answers.antt
use Rattle.std.proofs.Common.{rules, arith, ◌≡◌, ℕ, [], ◌+◌, ◌-◌, ◌∷◌, ◌++◌, drop, ap, subst, ◌∙◌}
use Rattle.std.proofs.lemmas.Grind.{common_steps}
use Rattle.prodash_base.specs.Rows.{row_of, rows_of}
use Rattle.prodash_line.specs.DrawnLines.{layout_of}
use Rattle.prodash_line.specs.Frames.{first_width, row_start}
use Rattle.prodash_line.specs.Lines.{columns_of}
use Rattle.prodash_line.specs.ProgressRows.{DrawnRow, filtered}
use Rattle.prodash_line.specs.Signs.{spelling}
use Rattle.prodash_line.specs.declared.render.line.draw.row.Measured.{Measured}
use Rattle.prodash_line.specs.plumbing.KeptLines.{own_bytes}
use Rattle.prodash_line.specs.plumbing.OverwriteBytes.{overwrite_line_bytes, row_end}
use Rattle.prodash_line.specs.plumbing.RowWriting.{DrawsRow}
use Rattle.prodash_line.specs.plumbing.WrittenRows.{RowsLeft}
use Rattle.prodash_line.proofs.KeptLines.{own_written}
use Rattle.prodash_line.proofs.WrittenRows.{comes_on, line_in, row_written}
use Rattle.prodash_line.proofs.render.line.draw.frame.write_rows.Goals as goal

pub loop-row-preserved : goal.loop-row-preserved
loop-row-preserved c =
    let scene = c.args.scene.now in
    let o = scene.options in
    let row = c.row-item.result in
    let out = c.loop-row.out.bytes in
    let new = c.end_line_over.new.self.bytes in
    let drawn : DrawnRow = (row_of row, c.in_ok-throughput.throughput) in
    let line = line_in scene drawn in
    let measured : Measured = record { throughput = c.in_ok-throughput.throughput; timer = scene.timer; at = scene.at } in
    let draws = subst (λ (n : ℕ). DrawsRow o n row measured c.loop-row.out c.push_row.new.out) c.midpoint-midpoint.ensures c.in_ok-own_midpoint.ensures.line in
    let first = c.split_first_width-old_width.ensures.first in
    let bytes : new ≡ out ++ (own_bytes o line ++ row_end (first_width c.loop-row.left.now - columns_of line)) =
    own_written o line out (row_end (first_width c.loop-row.left.now - columns_of line)) new
    ((c.in_ok-end_line_over.ensures.bytes _ _ _ draws).bytes ∙ ap (λ (n : ℕ). (out ++ spelling (row_start (layout_of o))) ++ overwrite_line_bytes n line) first) in
    let rows : filtered o.level_filter (rows_of (drop c.loop-row.row-index c.args.rows.now)) ≡ row_of row ∷ filtered o.level_filter (rows_of (drop (c.loop-row.row-index + 1) c.args.rows.now)) =
    grind (arith, common_steps) in
    let wide = c.in_ok-end_line_over.ensures.width _ _ _ draws in
    let now : RowsLeft = record { rows = drop c.loop-row.row-index c.args.rows.now; widths = c.loop-row.left.now; bytes = out; tracker = c.loop-row.tracker; drawn = c.loop-row.drawn } in
    let next : RowsLeft = record { rows = drop (c.loop-row.row-index + 1) c.args.rows.now; widths = c.split_first_width-old_width.result.1.now; bytes = new; tracker = c.observe_row.new.tracker; drawn = record c.loop-row.drawn { widths = c.push.new.self; midpoint = c.max-drawn.result } } in
    comes_on scene _ now next c.loop-row.invariant
    (row_written scene now next row c.in_ok-throughput.throughput rows c.in_ok-throughput.ensures.value c.in_ok-throughput.ensures.observed c.observe_row.ensures.kept
    c.split_first_width-old_width.ensures.others bytes
    (c.in_ok-push.ensures.items ∙ ap (λ (n : ℕ). c.loop-row.drawn.widths.items ++ n ∷ []) wide)
    (search rules) (search rules) (search rules))
