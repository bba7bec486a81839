-- Drawing words on a grid that fits a display leave one that fits it.
use Rattle.std.proofs.Common.{ℕ, List}
use Rattle.std.specs.Prelude.{min}
use Rattle.prodash_core.specs.declared.render.tui.event.Rect.{Rect}
use Rattle.prodash_line.specs.CellRows.{char_columns}
use Rattle.prodash_tui.specs.declared.style.Color.{Color}
use Rattle.prodash_tui.specs.declared.style.Style.{Style}
use Rattle.prodash_tui.specs.Displays.{Display}
use Rattle.prodash_tui.specs.Grids.{Sheet, room_of, with_background, with_filling, with_shortened, with_text}
use Rattle.prodash_tui.specs.Screens.{Fits}
use Rattle.prodash_tui.specs.Texts.{drawn_text, text_cells, text_cut, text_shortened}
use Rattle.prodash_tui.proofs.ColoredCells.{proper_background}
use Rattle.prodash_tui.proofs.KeptPanes.{Words}
use Rattle.prodash_tui.proofs.ProperGrids.{proper_cells, proper_filling}
use Rattle.prodash_tui.proofs.ProperRows.{proper_cut, proper_shortened, proper_text}
use Rattle.prodash_tui.proofs.WrittenTexts.{ellipsis_columns, length-cut, length-shortened}

abbrev Fit : Display → Sheet → Type 0
Fit d g = Fits char_columns d g

fit_text : (d : Display) (area : Rect) (style : Style) (text : List ℕ) (g : Sheet) → Fit d g → Fit d (with_text area style text g)
fit_text d area style text g h =
    let room = room_of area g in
    let cells = text_cells char_columns style (drawn_text text) in
    record {
      proper = proper_cells area (min 1 area.height) (text_cut style room text) g (proper_cut char_columns room cells (proper_text char_columns style (drawn_text text))) (length-cut room cells) h.proper;
      size = record { width = h.size.width; height = h.size.height };
    }

fit_shortened : (d : Display) (area : Rect) (style : Style) (text : List ℕ) (g : Sheet) → Fit d g → Fit d (with_shortened area style text g)
fit_shortened d area style text g h =
    let room = room_of area g in
    let cells = text_cells char_columns style (drawn_text text) in
    record {
      proper = proper_cells area (min 1 area.height) (text_shortened style room text) g
          (proper_shortened char_columns style room cells ellipsis_columns (proper_text char_columns style (drawn_text text))) (length-shortened style room cells) h.proper;
      size = record { width = h.size.width; height = h.size.height };
    }

fit_filling : (d : Display) (area : Rect) (style : Style) (c : ℕ) (g : Sheet) → Fit d g → Fit d (with_filling area style c g)
fit_filling d area style c g h = record { proper = proper_filling area style c g h.proper; size = record { width = h.size.width; height = h.size.height } }

fit_background : (d : Display) (area : Rect) (color : Color) (g : Sheet) → Fit d g → Fit d (with_background area color g)
fit_background d area color g h = record { proper = proper_background area color g h.proper; size = record { width = h.size.width; height = h.size.height } }

pub fitting : (d : Display) → Words (Fits char_columns d)
fitting d = record { text = fit_text d; shortened = fit_shortened d; filling = fit_filling d; background = fit_background d }
