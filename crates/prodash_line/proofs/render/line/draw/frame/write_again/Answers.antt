-- proofs/render/line/draw/frame/write_again/Answers.antt
use Rattle.std.proofs.Common.{rules, ◌≡◌, ◌≤◌, ℕ, ◌+◌, ◌-◌, List, [], ◌∷◌, ◌++◌, length, None, drop, refl, ap, subst, sym, ◌∙◌}
use Rattle.std.specs.Prelude.{slice_get, Some}
use Rattle.std.proofs.lemmas.Bool.{ltb-false}
use Rattle.std.proofs.lemmas.List.Elements.{All-nil}
use Rattle.std.proofs.lemmas.Option.{slice_get_read}
use Rattle.prodash_base.specs.Rows.{row_of, rows_of}
use Rattle.prodash_line.specs.Frames.{first_width}
use Rattle.prodash_line.specs.Lines.{Line, columns_of}
use Rattle.prodash_line.specs.ProgressRows.{DrawnRow, drawn_row_line, filtered, times_at}
use Rattle.prodash_line.specs.declared.render.line.draw.latest_rows.RowLine.{RowLine}
use Rattle.prodash_line.specs.plumbing.KeptLines.{AreAmong, IsAmong, drawn_in, kept_line, own_bytes, untimed_line}
use Rattle.prodash_line.specs.plumbing.OverwriteBytes.{row_end}
use Rattle.prodash_line.specs.plumbing.LineCopying.{IsLeft}
use Rattle.prodash_line.specs.plumbing.WrittenRows.{ComesTo, RowsLeft, left_at}
use Rattle.prodash_line.proofs.KeptLines.{among_last, among_more, filtered_from, same_size}
use Rattle.prodash_line.proofs.WrittenRows.{all_written, comes_on, line_in, row_left_out, row_written, starts}
use Rattle.prodash_line.proofs.render.line.draw.frame.write_again.Goals as goal

pub rows-init : goal.rows-init
rows-init c =
    let scene = c.args.scene.now in
    let o = scene.options in
    let aligned = scene.past.now.midpoint in
    let rows = c.args.rows.now in
    let copier = c.in_ok-copier.copier in
    let begins = c.in_ok-copier.ensures in
    let first : RowsLeft = record { rows = rows; widths = c.args.widths.now; bytes = c.args.out.now.bytes; tracker = c.args.tracker.now; drawn = c.args.drawn.now } in
    record {
      written = subst (λ (t : List ℕ). ComesTo scene first (left_at rows c.args.tracker.now (0, c.args.widths.now) t c.args.drawn.now)) (sym begins.bytes) (starts scene first);
      lines = subst (AreAmong o aligned (rows_of rows) copier.bytes.0) (sym begins.lines) (All-nil (IsAmong o aligned (rows_of rows) copier.bytes.0));
      left = begins.left o aligned (λ alike. subst (λ (m : ℕ). AreAmong o m (drawn_in scene.before) c.args.kept.now.bytes c.args.kept.now.lines.items) c.midpoint.ensures
          (c.are_for-are_alike.ensures alike (drawn_in scene.before) c.requires.kept));
    }

pub returns-in_default-clause-written : goal.returns-in_default-clause-written
returns-in_default-clause-written c =
    let scene = c.args.scene.now in
    let rows = c.args.rows.now in
    let n = c.in_ok-next.next.index in
    let left = c.in_ok-next.next.widths.now in
    let run = c.in_ok-next.ensures.run scene c.requires.timer refl c.rows.invariant.left in
    let begun : RowsLeft = left_at rows c.rows.tracker (c.rows.at.index, c.rows.at.widths.now) c.rows.copier.bytes.0 c.rows.drawn in
    let now : RowsLeft = left_at rows c.rows.tracker (n, left) c.copy_run.new.self.bytes.0 c.copy_run.new.drawn in
    let first : RowsLeft = record { rows = rows; widths = c.args.widths.now; bytes = c.args.out.now.bytes; tracker = c.args.tracker.now; drawn = c.args.drawn.now } in
    let past : length rows ≤ n = ltb-false n _ (sym c.in_default.ensures.lookup.0) in
    all_written scene c.args.widths.now rows c.args.out.now c.finish.new.out c.args.tracker.now c.rows.tracker c.args.drawn.now c.copy_run.new.drawn n left past
    (subst (λ (t : List ℕ). ComesTo scene first (left_at rows c.rows.tracker (n, left) t c.copy_run.new.drawn)) (sym c.finish.ensures.bytes)
    (comes_on scene first begun now c.rows.invariant.written run.written))

pub rows-preserved : goal.rows-preserved
rows-preserved c =
    let scene = c.args.scene.now in
    let o = scene.options in
    let aligned = scene.past.now.midpoint in
    let rows = c.args.rows.now in
    let n = c.in_ok-next.next.index in
    let left = c.in_ok-next.next.widths.now in
    let out = c.copy_run.new.self.bytes.0 in
    let new = c.write_line.new.copier.bytes.0 in
    let row = c.in-Some.row.now in
    let known = c.in-Some.ensures.lookup in
    let drawn : DrawnRow = (row_of row, c.in_ok-throughput.throughput) in
    let line = line_in scene drawn in
    let same : untimed_line o aligned drawn ≡ line = ap (λ timer. drawn_row_line o aligned (times_at timer scene.at) drawn) (sym c.requires.timer) in
    let size = c.in_ok-size.ensures.size in
    let writes = c.in_ok-size.ensures.bytes in
    let bytes = writes.bytes in
    let width = c.split_first_width-old_width.result.0 in
    let written : new ≡ out ++ (own_bytes o line ++ row_end (first_width left - columns_of line)) =
    bytes ∙ ap (λ (l : Line). out ++ (own_bytes o l ++ row_end (width - columns_of l))) same
    ∙ ap (λ (k : ℕ). out ++ (own_bytes o line ++ row_end (k - columns_of line))) c.split_first_width-old_width.ensures.first in
    let first : filtered o.level_filter (rows_of (drop n rows)) ≡ row_of row ∷ filtered o.level_filter (rows_of (drop (n + 1) rows)) =
    filtered_from o.level_filter rows n row known.3.0 known.1 (sym c.is_row_drawn.ensures ∙ c.if-not-is_row_drawn.false) in
    let found : slice_get rows n ≡ Some row = slice_get_read rows _ n row refl known.3.0 known.1 in
    let run = c.in_ok-next.ensures.run scene c.requires.timer refl c.rows.invariant.left in
    let begun : RowsLeft = left_at rows c.rows.tracker (c.rows.at.index, c.rows.at.widths.now) c.rows.copier.bytes.0 c.rows.drawn in
    let now : RowsLeft = left_at rows c.rows.tracker (n, left) out c.copy_run.new.drawn in
    let next : RowsLeft = left_at rows c.observe_row.new.tracker (n + 1, c.split_first_width-old_width.result.1.now) new
    (record c.copy_run.new.drawn { widths = c.push.new.self; midpoint = c.max-drawn.result }) in
    record {
      written = comes_on scene _ now next (comes_on scene _ begun now c.rows.invariant.written run.written)
          (row_written scene now next row c.in_ok-throughput.throughput first c.in_ok-throughput.ensures.value c.in_ok-throughput.ensures.observed c.observe_row.ensures.kept
          c.split_first_width-old_width.ensures.others written
          (c.in_ok-push.ensures.items ∙ ap (λ (k : ℕ). c.copy_run.new.drawn.widths.items ++ k ∷ []) (size.width ∙ ap columns_of same))
          (let own = size.midpoint in search (rules, own)) (search rules) (search rules));
      lines = c.in_ok-keep_line.ensures.added o aligned (rows_of rows) new
          (subst (AreAmong o aligned (rows_of rows) new) (sym writes.lines) (among_more o aligned (rows_of rows) out _ new c.copy_run.new.self.lines.0 bytes (run.lines c.rows.invariant.lines)))
          (λ shows. subst (λ (start : ℕ). IsAmong o aligned (rows_of rows) new (kept_line n start c.in_ok-size.size)) (sym c.len-start.ensures)
          (among_last o aligned rows out new (row_end (width - columns_of (untimed_line o aligned drawn))) row n c.in_ok-size.size found
          (same_size o aligned drawn (row_of row, None) c.in_ok-size.size (shows.line o aligned) (shows.midpoint o.defensive) size)
          (bytes ∙ ap (λ (l : Line). out ++ (own_bytes o l ++ row_end (width - columns_of (untimed_line o aligned drawn)))) (shows.line o aligned))));
      left = subst (λ (lines : List RowLine). IsLeft o aligned (drawn_in c.write_line.new.copier.before) lines c.write_line.new.copier.bytes.1 c.write_line.new.copier.end) (sym c.in_ok-keep_line.ensures.left)
          (writes.left o aligned (c.in_ok-next.ensures.left o aligned c.rows.invariant.left));
    }

pub rows-preserved-then-not-is_row_drawn : goal.rows-preserved-then-not-is_row_drawn
rows-preserved-then-not-is_row_drawn c =
    let scene = c.args.scene.now in
    let rows = c.args.rows.now in
    let n = c.in_ok-next.next.index in
    let left = c.in_ok-next.next.widths.now in
    let row = c.in-Some.row.now in
    let known = c.in-Some.ensures.lookup in
    let found : slice_get rows n ≡ Some row = slice_get_read rows _ n row refl known.3.0 known.1 in
    let run = c.in_ok-next.ensures.run scene c.requires.timer refl c.rows.invariant.left in
    let begun : RowsLeft = left_at rows c.rows.tracker (c.rows.at.index, c.rows.at.widths.now) c.rows.copier.bytes.0 c.rows.drawn in
    let now : RowsLeft = left_at rows c.rows.tracker (n, left) c.copy_run.new.self.bytes.0 c.copy_run.new.drawn in
    record {
      written = row_left_out scene rows _ n left c.copy_run.new.self.bytes.0 c.rows.tracker c.copy_run.new.drawn row found
          (sym c.is_row_drawn.ensures ∙ c.if-not-is_row_drawn.true) (comes_on scene _ begun now c.rows.invariant.written run.written);
      lines = run.lines c.rows.invariant.lines;
      left = c.in_ok-next.ensures.left scene.options scene.past.now.midpoint c.rows.invariant.left;
    }

pub write_line-requires : goal.write_line-requires
write_line-requires c = record {
  timer = c.requires.timer;
  left = c.in_ok-next.ensures.left c.args.scene.now.options c.args.scene.now.past.now.midpoint c.rows.invariant.left;
}
