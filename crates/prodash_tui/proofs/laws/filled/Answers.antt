use Rattle.std.proofs.Common.{arith}
use Rattle.std.specs.Prelude.{replicate}
use Rattle.prodash_line.specs.CellRows.{char_columns}
use Rattle.prodash_line.specs.DrawnLines.{safe_char}
use Rattle.prodash_tui.specs.Grids.{room_of}
use Rattle.prodash_tui.specs.Texts.{filling, text_cells}
use Rattle.prodash_tui.proofs.GridCells.{cells_outside, cells_shown}
use Rattle.prodash_tui.proofs.WrittenTexts.{length-cut}
use Rattle.prodash_tui.proofs.laws.filled.Goals as goal

pub returns-clause-shows : goal.returns-clause-shows
returns-clause-shows c = λ style d area g y whole in_row inside.
    cells_shown area area.height (filling style (room_of area g) d) g y whole in_row.0 in_row.1 inside

pub returns-clause-outside : goal.returns-clause-outside
returns-clause-outside c = λ style d area g small whole cuts.
    cells_outside area area.height (filling style (room_of area g) d) g whole cuts (omega arith)
    (length-cut (room_of area g) (text_cells char_columns style (replicate (room_of area g) (safe_char d))))
