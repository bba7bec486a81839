use Rattle.std.proofs.Common.{arith, ◌-◌, ◌≡◌, ℕ, Option, None, length, subst}
use Rattle.prodash_base.specs.Rows.{row_of}
use Rattle.prodash_base.specs.Timers.{TimerState}
use Rattle.prodash_line.specs.DrawnLines.{layout_of}
use Rattle.prodash_line.specs.Lines.{Line, columns_of}
use Rattle.prodash_line.specs.ProgressRows.{row_line, times_at}
use Rattle.prodash_line.specs.plumbing.KeptLines.{own_bytes, untimed_line}
use Rattle.prodash_line.specs.plumbing.OverwriteBytes.{on_row, row_end}
use Rattle.prodash_line.specs.plumbing.Writing.{DrawsLine}
use Rattle.prodash_line.specs.declared.render.line.draw.input.Options.{Options}
use Rattle.prodash_line.specs.declared.render.line.draw.line_writer.LineWriter.{LineWriter}
use Rattle.prodash_line.specs.ProgressRows.{DrawnRow}
use Rattle.prodash_line.proofs.KeptLines.{own_length, own_written}
use Rattle.prodash_line.proofs.render.line.draw.frame.compose_line.Goals as goal

-- a row with what a timer says follows the bytes of old
abbrev Draws : Options → ℕ → DrawnRow → ℕ → Option TimerState → LineWriter → LineWriter → Type 0
Draws o aligned drawn at timer old new =
    DrawsLine o (on_row (layout_of o) old) (row_line o.defensive o.terminal_dimensions.0 o.bar_columns aligned drawn (times_at timer at drawn.0)) new

untimed : (o : Options) (n aligned : ℕ) (drawn : DrawnRow) (at : ℕ) (timer other : Option TimerState) (old new : LineWriter) → n ≡ aligned → timer ≡ other
    → Draws o n drawn at timer old new → Draws o aligned drawn at other old new
untimed o n aligned drawn at timer other old new e t h =
    subst (λ (timer : Option TimerState). Draws o aligned drawn at timer old new) t (subst (λ (n : ℕ). Draws o n drawn at timer old new) e h)

line_of : (c : goal.In_ok-width) → Draws c.args.scene.now.options c.args.scene.now.past.now.midpoint (row_of c.args.row.now, c.args.throughput) c.args.scene.now.at None c.args.out.now c.push_row.new.out
line_of c = untimed c.args.scene.now.options _ _ (row_of c.args.row.now, c.args.throughput) c.args.scene.now.at _ _ c.args.out.now c.push_row.new.out c.midpoint-aligned.ensures c.requires c.in_ok-midpoint.ensures.line

abbrev line : goal.In_ok-width → Line
line c = untimed_line c.args.scene.now.options c.args.scene.now.past.now.midpoint (row_of c.args.row.now, c.args.throughput)

pub overflow_sub-length : goal.overflow_sub-length
overflow_sub-length c =
    let o = c.args.scene.now.options in
    let drawn : DrawnRow = (row_of c.args.row.now, c.args.throughput) in
    let written = untimed o _ _ drawn c.args.scene.now.at _ _ c.args.out.now c.push_row.new.out c.midpoint-aligned.ensures c.requires c.in_ok-midpoint.ensures.line in
    let all = own_length o (untimed_line o c.args.scene.now.past.now.midpoint drawn) c.args.out.now.bytes c.push_row.new.out.bytes written.writes.bytes in
    let before = c.len-start.ensures in
    let after = c.len.ensures in
    omega (arith, all, before, after)

pub returns-clause-bytes : goal.returns-clause-bytes
returns-clause-bytes c =
    own_written c.args.scene.now.options (line c) c.args.out.now.bytes (row_end (c.args.old_width - columns_of (line c))) c.end_line_over.new.self.bytes
    (c.in_ok-width.ensures.bytes _ _ _ (line_of c)).bytes

pub returns-clause-size : goal.returns-clause-size
returns-clause-size c =
    let o = c.args.scene.now.options in
    let all = own_length o (line c) c.args.out.now.bytes c.push_row.new.out.bytes (line_of c).writes.bytes in
    let before = c.len-start.ensures in
    let after = c.len.ensures in
    record {
      bytes = let e : c.len.result - c.len-start.result ≡ length (own_bytes o (line c)) = omega (arith, all, before, after) in e;
      width = c.in_ok-width.ensures.width _ _ _ (line_of c);
      midpoint = c.in_ok-midpoint.ensures.midpoint;
    }
