use Rattle.std.proofs.Common.{◌≡◌, ◌++◌, drop, map}
use Rattle.prodash_line.specs.CellRows.{char_columns}
use Rattle.prodash_line.specs.DrawnLines.{safe_char}
use Rattle.prodash_tui.specs.Rows.{front}
use Rattle.prodash_tui.specs.plumbing.Writing.{IsInside, pen_at, after_text}
use Rattle.prodash_tui.proofs.row.Row.draw_text.Given as goal

abbrev pub invariant-loop-c : goal.invariant-loop-c
invariant-loop-c l = record {
  written : (l.self, l.pen) ≡ after_text char_columns l.style (map safe_char l.yielded) (front l.x l.fn.self ++ drop l.x l.fn.self, pen_at l.x l.end);
  inside : IsInside l.self l.pen;
}
