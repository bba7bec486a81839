use Rattle.std.specs.Prelude.{min}
use Rattle.prodash_line.specs.CellRows.{char_columns}
use Rattle.prodash_tui.specs.Grids.{room_of}
use Rattle.prodash_tui.specs.Rects.{border}
use Rattle.prodash_tui.specs.Texts.{drawn_text, text_cells, text_cut, text_shortened}
use Rattle.prodash_tui.proofs.ColoredCells.{proper_background}
use Rattle.prodash_tui.proofs.ProperGrids.{proper_blank, proper_cells, proper_filling, proper_fillings}
use Rattle.prodash_tui.proofs.ProperRows.{proper_cut, proper_shortened, proper_text, space_columns}
use Rattle.prodash_tui.proofs.WrittenTexts.{ellipsis_columns, length-cut, length-shortened}
use Rattle.prodash_tui.proofs.laws.proper.Goals as goal

pub returns-clause-blank : goal.returns-clause-blank
returns-clause-blank c = proper_blank char_columns space_columns

pub returns-clause-text : goal.returns-clause-text
returns-clause-text c = λ style text area g h.
    let room = room_of area g in
    let cells = text_cells char_columns style (drawn_text text) in
    proper_cells area (min 1 area.height) (text_cut style room text) g (proper_cut char_columns room cells (proper_text char_columns style (drawn_text text))) (length-cut room cells) h

pub returns-clause-shortened : goal.returns-clause-shortened
returns-clause-shortened c = λ style text area g h.
    let room = room_of area g in
    let cells = text_cells char_columns style (drawn_text text) in
    proper_cells area (min 1 area.height) (text_shortened style room text) g
    (proper_shortened char_columns style room cells ellipsis_columns (proper_text char_columns style (drawn_text text))) (length-shortened style room cells) h

pub returns-clause-filled : goal.returns-clause-filled
returns-clause-filled c = λ style d area g h. proper_filling area style d g h

pub returns-clause-border : goal.returns-clause-border
returns-clause-border c = λ style area g h. proper_fillings style (border area) g h

pub returns-clause-background : goal.returns-clause-background
returns-clause-background c = λ color area g h. proper_background area color g h
