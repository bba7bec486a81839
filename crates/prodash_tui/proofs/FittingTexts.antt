-- A text that fits a rectangle is drawn without an ellipsis.
use Rattle.std.proofs.Common.{◌≡◌, ℕ, ◌≤◌, List, ap, arith}
use Rattle.std.specs.Prelude.{min}
use Rattle.prodash_core.specs.declared.render.tui.event.Rect.{Rect}
use Rattle.prodash_line.specs.CellRows.{char_columns, text_columns}
use Rattle.prodash_tui.specs.declared.cell.Cell.{Cell}
use Rattle.prodash_tui.specs.declared.style.Style.{Style}
use Rattle.prodash_tui.specs.Grids.{Sheet, room_of, with_cells, with_shortened, with_text}
use Rattle.prodash_tui.specs.Texts.{drawn_text, text_cells}
use Rattle.prodash_tui.proofs.WrittenTexts.{length-text_cells, shortened_whole}

pub fitting_text : (area : Rect) (style : Style) (text : List ℕ) (g : Sheet) → text_columns char_columns (drawn_text text) ≤ room_of area g
    → with_text area style text g ≡ with_shortened area style text g
fitting_text area style text g fits =
    ap (λ (cells : List Cell). with_cells area (min 1 area.height) cells g)
    (shortened_whole style (room_of area g) (text_cells char_columns style (drawn_text text)) (omega (arith, length-text_cells char_columns style (drawn_text text))))
