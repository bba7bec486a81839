use Rattle.std.proofs.Common.{◌≡◌, map}
use Rattle.std.specs.Prelude.{min}
use Rattle.prodash_line.specs.CellRows.{char_columns, text_columns}
use Rattle.prodash_line.specs.DrawnLines.{safe_char}
use Rattle.prodash_tui.proofs.text.text_columns.Given as goal

abbrev pub invariant-loop-c : goal.invariant-loop-c
invariant-loop-c l = l.columns ≡ min (text_columns char_columns (map safe_char l.yielded)) 65536
