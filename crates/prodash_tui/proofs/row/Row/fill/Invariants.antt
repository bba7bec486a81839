use Rattle.std.proofs.Common.{◌≡◌, ◌++◌, drop, replicate}
use Rattle.prodash_line.specs.CellRows.{char_columns}
use Rattle.prodash_tui.specs.Rows.{front}
use Rattle.prodash_tui.specs.plumbing.Writing.{IsInside, pen_at, after_text}
use Rattle.prodash_tui.proofs.row.Row.fill.Given as goal

abbrev pub invariant-loop : goal.invariant-loop
invariant-loop l = record {
  written : (l.self, l.pen) ≡ after_text char_columns l.style (replicate l.counter l.c) (front l.x l.fn.self ++ drop l.x l.fn.self, pen_at l.x l.end);
  inside : IsInside l.self l.pen;
}
