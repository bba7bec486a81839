-- What drawing inside a rectangle leaves of the cells outside it, and what the rectangle shows.
use Rattle.std.proofs.Common.{◌≡◌, ℕ, ◌+◌, ◌<◌, ◌≤◌, false, List, [], length, take, drop, sym, ap, inl, inr, ◌∙◌, arith}
use Rattle.std.proofs.lemmas.Bool.{cases_lt}
use Rattle.std.proofs.lemmas.List.{get_or_past}
use Rattle.std.proofs.lemmas.List.Elements.{All-get_or}
use Rattle.prodash_core.specs.declared.render.tui.event.Rect.{Rect}
use Rattle.prodash_tui.specs.declared.cell.Cell.{Cell}
use Rattle.prodash_tui.specs.Cells.{blank_cell, cell_at, is_half}
use Rattle.prodash_tui.specs.Rows.{splice}
use Rattle.prodash_tui.specs.Grids.{Sheet, IsSheet, in_rows, left_of, room_of, with_cells}
use Rattle.prodash_tui.specs.Outside.{CutsNone, IsRowOf, SameOutside, Shows, row_at}
use Rattle.prodash_tui.proofs.SplicedRows.{splice_before, splice_behind, splice_new}
use Rattle.prodash_tui.proofs.GridRows.{in_inside, in_outside, length-in_rows_any}

-- row y of the grid
row_width : (g : Sheet) (y : ℕ) → IsSheet g → y < length g.rows → length (row_at g y) ≡ g.width
row_width g y whole inside = All-get_or (λ (row : List Cell). length row ≡ g.width) g.rows y [] inside whole.each

-- a row that is drawn on, outside the rectangle's columns
drawn_outside : (area : Rect) (new : List Cell) (g : Sheet) (y x : ℕ) → IsSheet g → CutsNone area g → IsRowOf area y → y < length g.rows → length new ≤ room_of area g
    → (area.x ≤ x → x < area.x + area.width → ⊥) → cell_at (splice (left_of area g) new (row_at g y)) x ≡ cell_at (row_at g y) x
drawn_outside area new g y x whole cuts in_row inside fits out =
    let row = row_at g y in
    let left = left_of area g in
    let width : length row ≡ g.width = row_width g y whole inside in
    let right : is_half (cell_at row (area.x + area.width)) ≡ false = cuts.right y in_row in
    elim (cases_lt x left) [
      | inl before ↦
          elim (cases_lt area.x g.width) [
            | inl on ↦ splice_before left new row x (omega arith) (ap (λ (n : ℕ). is_half (cell_at row n)) (let e : left ≡ area.x = omega arith in e) ∙ cuts.left y in_row) before
            | inr off ↦ splice_before left new row x (omega arith) (ap is_half (get_or_past row left blank_cell (omega arith))) before
          ]
      | inr behind ↦
          elim (cases_lt x (area.x + area.width)) [
            | inl within ↦
                splice_behind left new row x (omega arith)
                (elim (cases_lt x area.x) [ inl h ↦ (omega arith) | inr h ↦ absurd (out h within) ])
                (λ (e : x ≡ left + length new). ap is_half (get_or_past row x blank_cell (elim (cases_lt x area.x) [ inl h ↦ (omega arith) | inr h ↦ absurd (out h within) ])))
            | inr past ↦
                splice_behind left new row x (omega arith) (omega arith)
                (λ (e : x ≡ left + length new).
                elim (cases_lt x (length row)) [
                  | inl on ↦ ap (λ (n : ℕ). is_half (cell_at row n)) (let f : x ≡ area.x + area.width = omega arith in f) ∙ right
                  | inr off ↦ ap is_half (get_or_past row x blank_cell off)
                ])
          ]
    ]

-- no cell outside changes
pub cells_outside : (area : Rect) (count : ℕ) (new : List Cell) (g : Sheet) → IsSheet g → CutsNone area g → count ≤ area.height → length new ≤ room_of area g
    → SameOutside area g (with_cells area count new g)
cells_outside area count new g whole cuts few fits y x out =
    let f = splice (left_of area g) new in
    elim (cases_lt y area.y) [
      | inl above ↦ ap (λ (row : List Cell). cell_at row x) (in_outside area.y count f g.rows y [] (λ (h : area.y ≤ y) (i : y < area.y + count). omega arith))
      | inr from ↦
          elim (cases_lt y (area.y + count)) [
            | inr below ↦ ap (λ (row : List Cell). cell_at row x) (in_outside area.y count f g.rows y [] (λ (h : area.y ≤ y) (i : y < area.y + count). omega arith))
            | inl to ↦
                elim (cases_lt y (length g.rows)) [
                  | inl inside ↦
                      ap (λ (row : List Cell). cell_at row x) (in_inside area.y count f g.rows y [] from to inside)
                      ∙ drawn_outside area new g y x whole cuts (from, omega arith) inside fits (λ (h : area.x ≤ x) (i : x < area.x + area.width). out ((from, omega arith), h, i))
                  | inr past ↦
                      ap (λ (row : List Cell). cell_at row x) (get_or_past (in_rows area.y count f g.rows) y [] (omega (arith, length-in_rows_any area.y count f g.rows)) ∙ sym (get_or_past g.rows y [] past))
                ]
          ]
    ]

-- the rectangle shows the cells
pub cells_shown : (area : Rect) (count : ℕ) (new : List Cell) (g : Sheet) (y : ℕ) → IsSheet g → area.y ≤ y → y < area.y + count → y < g.height → Shows area (with_cells area count new g) y new
cells_shown area count new g y whole from to inside =
    let on : y < length g.rows = omega (arith, whole.high) in
    let width : length (row_at g y) ≡ g.width = row_width g y whole on in
    ap (λ (row : List Cell). take (length new) (drop (left_of area g) row)) (in_inside area.y count (splice (left_of area g) new) g.rows y [] from to on)
    ∙ splice_new (left_of area g) new (row_at g y) (omega arith)
