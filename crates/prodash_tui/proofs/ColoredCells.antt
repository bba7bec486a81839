-- Another background in a rectangle: the cells inside and outside, and proper rows.
use Rattle.std.proofs.Common.{◌≡◌, ℕ, ◌+◌, ◌<◌, ◌≤◌, List, [], ◌∷◌, ◌++◌, length, map, take, drop, refl, sym, ap, subst, inl, inr, ◌∙◌, arith}
use Rattle.std.specs.List.{All}
use Rattle.std.proofs.lemmas.Bool.{cases_lt}
use Rattle.std.proofs.lemmas.List.{drop-drop, get_or_past, map-append, take-append-drop}
use Rattle.std.proofs.lemmas.List.Elements.{All-from_get_or, All-get_or, All-weaker}
use Rattle.prodash_core.specs.declared.render.tui.event.Rect.{Rect}
use Rattle.prodash_line.specs.CellRows.{char_columns}
use Rattle.prodash_tui.specs.declared.cell.Cell.{Cell}
use Rattle.prodash_tui.specs.declared.cell.Cell.TheVariants.{Holds, Half}
use Rattle.prodash_tui.specs.declared.style.Color.{Color}
use Rattle.prodash_tui.specs.Cells.{blank_cell, cell_at, on_background, plain}
use Rattle.prodash_tui.specs.Rows.{in_part}
use Rattle.prodash_tui.specs.Grids.{Sheet, in_rows, left_of, room_of, with_background}
use Rattle.prodash_tui.specs.Differences.{IsProper, IsProperSheet}
use Rattle.prodash_tui.specs.Outside.{IsIn, grid_cell, row_at}
use Rattle.prodash_tui.proofs.GridRows.{All-in_rows, in_inside, in_outside, length-in_rows_any}

-- ---- cells

-- a row outside the columns of the rectangle
row_outside : (area : Rect) (color : Color) (g : Sheet) (row : List Cell) (x : ℕ) → (area.x ≤ x → x < area.x + area.width → ⊥)
    → cell_at (in_part (left_of area g) (room_of area g) (on_background color) row) x ≡ cell_at row x
row_outside area color g row x out =
    in_outside (left_of area g) (room_of area g) (on_background color) row x blank_cell
    (λ (h : left_of area g ≤ x) (i : x < left_of area g + room_of area g). out (omega arith) (omega arith))

pub colored_outside : (area : Rect) (color : Color) (g : Sheet) (y x : ℕ) → (IsIn area y x → ⊥) → grid_cell (with_background area color g) y x ≡ grid_cell g y x
colored_outside area color g y x out =
    let f = in_part (left_of area g) (room_of area g) (on_background color) in
    elim (cases_lt y area.y) [
      | inl above ↦ ap (λ (row : List Cell). cell_at row x) (in_outside area.y area.height f g.rows y [] (λ (h : area.y ≤ y) (i : y < area.y + area.height). omega arith))
      | inr from ↦
          elim (cases_lt y (area.y + area.height)) [
            | inr below ↦ ap (λ (row : List Cell). cell_at row x) (in_outside area.y area.height f g.rows y [] (λ (h : area.y ≤ y) (i : y < area.y + area.height). omega arith))
            | inl to ↦
                elim (cases_lt y (length g.rows)) [
                  | inl inside ↦
                      ap (λ (row : List Cell). cell_at row x) (in_inside area.y area.height f g.rows y [] from to inside)
                      ∙ row_outside area color g (row_at g y) x (λ (h : area.x ≤ x) (i : x < area.x + area.width). out ((from, to), h, i))
                  | inr past ↦
                      ap (λ (row : List Cell). cell_at row x) (get_or_past (in_rows area.y area.height f g.rows) y [] (omega (arith, length-in_rows_any area.y area.height f g.rows)) ∙ sym (get_or_past g.rows y [] past))
                ]
          ]
    ]

pub colored_inside : (area : Rect) (color : Color) (g : Sheet) (y x : ℕ) → IsIn area y x → y < length g.rows → x < length (row_at g y) → length (row_at g y) ≡ g.width
    → grid_cell (with_background area color g) y x ≡ on_background color (grid_cell g y x)
colored_inside area color g y x within high wide width =
    let f = in_part (left_of area g) (room_of area g) (on_background color) in
    ap (λ (row : List Cell). cell_at row x) (in_inside area.y area.height f g.rows y [] within.0.0 within.0.1 high)
    ∙ in_inside (left_of area g) (room_of area g) (on_background color) (row_at g y) x blank_cell (omega (arith, within.1)) (omega (arith, within.1, within.2)) wide

-- ---- proper rows

-- a cell without its style
unstyled : Cell → Cell
unstyled (Holds c joined style) = Holds c joined plain
unstyled Half = Half

unstyled_colored : (color : Color) (a : Cell) → unstyled (on_background color a) ≡ unstyled a
unfolding unstyled
unstyled_colored color (Holds c joined style) = refl
unstyled_colored color Half = refl

unstyled_map : (color : Color) (cells : List Cell) → map unstyled (map (on_background color) cells) ≡ map unstyled cells
unstyled_map color [] = refl
unstyled_map color (a ∷ cells) = λ i. unstyled_colored color a i ∷ unstyled_map color cells i

unstyled_part : (color : Color) (x n : ℕ) (cells : List Cell) → map unstyled (in_part x n (on_background color) cells) ≡ map unstyled cells
unstyled_part color x n cells =
    let some = take n (drop x cells) in
    let rest = drop (x + n) cells in
    let all : take x cells ++ (some ++ rest) ≡ cells =
    ap (λ (cs : List Cell). take x cells ++ (some ++ cs)) (sym (drop-drop n x cells)) ∙ ap (λ (cs : List Cell). take x cells ++ cs) (take-append-drop n (drop x cells)) ∙ take-append-drop x cells in
    map-append unstyled (take x cells) (map (on_background color) some ++ rest)
    ∙ ap (λ (cs : List Cell). map unstyled (take x cells) ++ cs) (map-append unstyled (map (on_background color) some) rest ∙ ap (λ (cs : List Cell). cs ++ map unstyled rest) (unstyled_map color some) ∙ sym (map-append unstyled some rest))
    ∙ sym (map-append unstyled (take x cells) (some ++ rest))
    ∙ ap (map unstyled) all

proper_unstyled : (columns : ℕ → ℕ) (cells : List Cell) → IsProper columns cells → IsProper columns (map unstyled cells)
unfolding unstyled
proper_unstyled columns [] h = tt
proper_unstyled columns (Half ∷ cells) h = h
proper_unstyled columns (Holds c joined style ∷ []) h = h
proper_unstyled columns (Holds c joined style ∷ Half ∷ cells) h = (h.0, h.1, proper_unstyled columns cells h.2)
proper_unstyled columns (Holds c joined style ∷ Holds d others look ∷ cells) h = (h.0, h.1, proper_unstyled columns (Holds d others look ∷ cells) h.2)

proper_styled : (columns : ℕ → ℕ) (cells : List Cell) → IsProper columns (map unstyled cells) → IsProper columns cells
unfolding unstyled
proper_styled columns [] h = tt
proper_styled columns (Half ∷ cells) h = h
proper_styled columns (Holds c joined style ∷ []) h = h
proper_styled columns (Holds c joined style ∷ Half ∷ cells) h = (h.0, h.1, proper_styled columns cells h.2)
proper_styled columns (Holds c joined style ∷ Holds d others look ∷ cells) h = (h.0, h.1, proper_styled columns (Holds d others look ∷ cells) h.2)

proper_part : (columns : ℕ → ℕ) (color : Color) (x n : ℕ) (cells : List Cell) → IsProper columns cells → IsProper columns (in_part x n (on_background color) cells)
proper_part columns color x n cells h =
    proper_styled columns (in_part x n (on_background color) cells) (subst (IsProper columns) (sym (unstyled_part color x n cells)) (proper_unstyled columns cells h))

-- a row of such a grid
abbrev IsGood : Sheet → List Cell → Type 0
IsGood g row = (length row ≡ g.width) × IsProper char_columns row

pub proper_background : (area : Rect) (color : Color) (g : Sheet) → IsProperSheet char_columns g → IsProperSheet char_columns (with_background area color g)
proper_background area color g h =
    let left = left_of area g in
    let room = room_of area g in
    let f = in_part left room (on_background color) in
    let all : All (IsGood g) g.rows =
    All-from_get_or (IsGood g) g.rows []
    (λ (i : ℕ) (inside : i < length g.rows). (All-get_or (λ (row : List Cell). length row ≡ g.width) g.rows i [] inside h.sheet.each, All-get_or (IsProper char_columns) g.rows i [] inside h.proper)) in
    let rows = (with_background area color g).rows in
    let drawn : All (IsGood g) rows =
    All-in_rows (IsGood g) area.y area.height f g.rows
    (λ (row : List Cell) (good : IsGood g row). (length-in_rows_any left room (on_background color) row ∙ good.0, proper_part char_columns color left room row good.1)) all in
    record {
      sheet = record {
        high = length-in_rows_any area.y area.height f g.rows ∙ h.sheet.high;
        each = All-weaker (IsGood g) (λ (row : List Cell). length row ≡ g.width) (λ (row : List Cell) (good : IsGood g row). good.0) rows drawn;
      };
      proper = All-weaker (IsGood g) (IsProper char_columns) (λ (row : List Cell) (good : IsGood g row). good.1) rows drawn;
    }
