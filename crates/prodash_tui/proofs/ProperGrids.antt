-- Drawing on grids of proper rows leaves such grids.
use Rattle.std.proofs.Common.{◌≡◌, ℕ, ◌<◌, ◌≤◌, List, [], ◌∷◌, length, replicate, ◌∙◌, arith}
use Rattle.std.specs.List.{All}
use Rattle.std.proofs.lemmas.List.{length-replicate}
use Rattle.std.proofs.lemmas.List.Elements.{All-from_get_or, All-get_or, All-replicate, All-weaker}
use Rattle.prodash_core.specs.declared.render.tui.event.Rect.{Rect}
use Rattle.prodash_line.specs.CellRows.{char_columns}
use Rattle.prodash_line.specs.DrawnLines.{safe_char}
use Rattle.prodash_tui.specs.declared.cell.Cell.{Cell}
use Rattle.prodash_tui.specs.declared.style.Style.{Style}
use Rattle.prodash_tui.specs.Cells.{blank_cell, blank_cells}
use Rattle.prodash_tui.specs.Rows.{splice}
use Rattle.prodash_tui.specs.Texts.{filling, text_cells}
use Rattle.prodash_tui.specs.Grids.{Sheet, blank_sheet, left_of, room_of, with_cells, with_filling, with_fillings}
use Rattle.prodash_tui.specs.Differences.{IsProper, IsProperSheet}
use Rattle.prodash_tui.proofs.GridRows.{All-in_rows, length-in_rows_any}
use Rattle.prodash_tui.proofs.ProperRows.{proper_blanks, proper_cut, proper_splice, proper_text, space_columns}
use Rattle.prodash_tui.proofs.SplicedRows.{length-splice}
use Rattle.prodash_tui.proofs.WrittenTexts.{length-cut}

-- a row of such a grid
abbrev IsGood : Sheet → List Cell → Type 0
IsGood g row = (length row ≡ g.width) × IsProper char_columns row

pub proper_blank : (columns : ℕ → ℕ) → columns 32 ≡ 1 → (width height : ℕ) → IsProperSheet columns (blank_sheet width height)
proper_blank columns space width height = record {
  sheet = record {
    high = length-replicate height (blank_cells width);
    each = All-replicate (λ (row : List Cell). length row ≡ width) height (blank_cells width) (length-replicate width blank_cell);
  };
  proper = All-replicate (IsProper columns) height (blank_cells width) (proper_blanks columns width space);
}

-- proper cells that have room
pub proper_cells : (area : Rect) (count : ℕ) (new : List Cell) (g : Sheet) → IsProper char_columns new → length new ≤ room_of area g → IsProperSheet char_columns g → IsProperSheet char_columns (with_cells area count new g)
proper_cells area count new g proper fits h =
    let x = left_of area g in
    let all : All (IsGood g) g.rows =
    All-from_get_or (IsGood g) g.rows []
    (λ (i : ℕ) (inside : i < length g.rows). (All-get_or (λ (row : List Cell). length row ≡ g.width) g.rows i [] inside h.sheet.each, All-get_or (IsProper char_columns) g.rows i [] inside h.proper)) in
    let rows = (with_cells area count new g).rows in
    let drawn : All (IsGood g) rows =
    All-in_rows (IsGood g) area.y count (splice x new) g.rows
    (λ (row : List Cell) (good : IsGood g row). (length-splice x new row (omega (arith, good.0)) ∙ good.0, proper_splice char_columns x new row space_columns (omega (arith, good.0)) proper good.1)) all in
    record {
      sheet = record {
        high = length-in_rows_any area.y count (splice x new) g.rows ∙ h.sheet.high;
        each = All-weaker (IsGood g) (λ (row : List Cell). length row ≡ g.width) (λ (row : List Cell) (good : IsGood g row). good.0) rows drawn;
      };
      proper = All-weaker (IsGood g) (IsProper char_columns) (λ (row : List Cell) (good : IsGood g row). good.1) rows drawn;
    }

pub proper_filling : (area : Rect) (style : Style) (c : ℕ) (g : Sheet) → IsProperSheet char_columns g → IsProperSheet char_columns (with_filling area style c g)
proper_filling area style c g h =
    let room = room_of area g in
    let cells = text_cells char_columns style (replicate room (safe_char c)) in
    proper_cells area area.height (filling style room c) g (proper_cut char_columns room cells (proper_text char_columns style (replicate room (safe_char c)))) (length-cut room cells) h

pub proper_fillings : (style : Style) (fs : List (Rect × ℕ)) (g : Sheet) → IsProperSheet char_columns g → IsProperSheet char_columns (with_fillings style fs g)
proper_fillings style [] g h = h
proper_fillings style (f ∷ fs) g h = proper_fillings style fs (with_filling f.0 style f.1 g) (proper_filling f.0 style f.1 g h)
