use Rattle.std.proofs.Common.{arith}
use Rattle.std.specs.Prelude.{min}
use Rattle.prodash_line.specs.CellRows.{char_columns}
use Rattle.prodash_tui.specs.Grids.{room_of}
use Rattle.prodash_tui.specs.Texts.{drawn_text, text_cells, text_cut}
use Rattle.prodash_tui.proofs.GridCells.{cells_outside, cells_shown}
use Rattle.prodash_tui.proofs.WrittenTexts.{length-cut}
use Rattle.prodash_tui.proofs.laws.text.Goals as goal

pub returns-clause-shows : goal.returns-clause-shows
returns-clause-shows c = λ style text area g whole some inside.
    cells_shown area (min 1 area.height) (text_cut style (room_of area g) text) g area.y whole (omega arith) (omega arith) inside

pub returns-clause-outside : goal.returns-clause-outside
returns-clause-outside c = λ style text area g small whole cuts.
    cells_outside area (min 1 area.height) (text_cut style (room_of area g) text) g whole cuts (omega arith)
    (length-cut (room_of area g) (text_cells char_columns style (drawn_text text)))
