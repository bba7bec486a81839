-- A row of a display with other widths stands for that of the grid after a character is written.
use Rattle.std.proofs.Common.{◌≡◌, ℕ, zero, suc, ◌+◌, ◌-◌, ◌<◌, ◌≤◌, Bool, true, false, inl, inr, List, [], ◌∷◌, ◌++◌, length, map, set, get_or, refl, sym, ap, subst, ◌∙◌, arith}
use Rattle.std.specs.Prelude.{min, replicate}
use Rattle.std.proofs.lemmas.Bool.{cases_lt}
use Rattle.std.proofs.lemmas.List.{get_or-set_same, length-set, set-get_or, set-set}
use Rattle.prodash_tui.specs.declared.cell.Cell.{Cell}
use Rattle.prodash_tui.specs.declared.cell.Cell.TheVariants.{Holds, Half}
use Rattle.prodash_tui.specs.declared.sign.Sign.TheVariants.{Char, MoveTo}
use Rattle.prodash_tui.specs.declared.style.Style.{Style}
use Rattle.prodash_tui.specs.Cells.{cell_at, cell_of}
use Rattle.prodash_tui.specs.Rows.{splice}
use Rattle.prodash_tui.specs.Texts.{cut}
use Rattle.prodash_tui.specs.Displays.{Display, after_char, after_signs, in_cursor_row, with_wrapped}
use Rattle.prodash_tui.specs.OtherWidths.{AreWidths, Stands}
use Rattle.prodash_tui.proofs.PlayedChanges.{IsWide, Join, after_append, char_written, cleared, half, join_all, moved_to, stays_unwrapped, styled_by, with_joined, written_at_rows}
use Rattle.prodash_tui.proofs.StandingRows.{SameBut, stands_at_edge, stands_blank, stands_torn, stands_written}
use Rattle.prodash_tui.proofs.WrittenTexts.{cut_all}

-- a display with a row that stands for these cells, and else the same but for its cursor
pub record Leaves (y : ℕ) (cells : List Cell) (style : Style) (d e : Display) : Type 0 where
  pub row : List Cell
  pub column : ℕ
  pub stands : Stands row cells
  pub is : e ≡ written_at_rows y column (set d.grid.rows y row) style d

-- the display with cells in this column of the cursor's row, and the cursor behind them
abbrev written_from : ℕ → List Cell → Display → Display
written_from x new d = record (in_cursor_row (splice x new) d) { cursor = record d.cursor { column = x + length new } }

-- a wide character in the last column goes into the last two
moved_left : (n c y x : ℕ) (style : Style) (d : Display) → d.wraps ≡ false → x + 2 ≡ d.grid.width
    → after_char (suc (suc n)) c (written_at_rows y (x + 1) d.grid.rows style d) ≡ after_char (suc (suc n)) c (written_at_rows y x d.grid.rows style d)
moved_left n c y x style d unwrapped last =
    let new = Holds c [] style ∷ Half ∷ [] in
    let all : cut d.grid.width new ≡ new = cut_all d.grid.width new (omega arith) in
    let written : (column : ℕ) → min column (d.grid.width - 2) ≡ x
    → after_char (suc (suc n)) c (written_at_rows y column d.grid.rows style d) ≡ written_from x new (written_at_rows y x d.grid.rows style d) =
    λ column at.
    let e = written_at_rows y column d.grid.rows style d in
    ap (λ (cells : List Cell). with_wrapped cells e) all
    ∙ stays_unwrapped new e unwrapped
    ∙ ap (λ (m : ℕ). written_from m new e) at in
    written (x + 1) (omega arith) ∙ sym (written x (omega arith))

-- a wide character isn't shown where there is one column
without_room : (n c y : ℕ) (style : Style) (d : Display) → d.wraps ≡ false → d.grid.width ≡ 1
    → after_char (suc (suc n)) c (written_at_rows y 0 d.grid.rows style d) ≡ written_at_rows y 0 (set d.grid.rows y (splice 0 [] (get_or d.grid.rows y []))) style d
without_room n c y style d unwrapped narrow =
    let e = written_at_rows y 0 d.grid.rows style d in
    let none : cut d.grid.width (Holds c [] style ∷ Half ∷ []) ≡ [] = ap (λ (w : ℕ). cut w (Holds c [] style ∷ Half ∷ [])) narrow in
    let at : min 0 (d.grid.width - 0) ≡ 0 = omega arith in
    ap (λ (cells : List Cell). with_wrapped cells e) none ∙ stays_unwrapped [] e unwrapped ∙ ap (λ (m : ℕ). written_from m [] e) at

-- nothing joins what is before the first column
none_join : (columns : ℕ → ℕ) (y : ℕ) (style : Style) (d : Display) (js : List ℕ) → Join columns js → after_signs columns (map Char js) (written_at_rows y 0 d.grid.rows style d) ≡ written_at_rows y 0 d.grid.rows style d
none_join columns y style d [] join = refl
none_join columns y style d (j ∷ js) join =
    let e = written_at_rows y 0 d.grid.rows style d in
    ap (λ (n : ℕ). after_signs columns (map Char js) (after_char n j e)) join.0
    ∙ ap (λ (rows : List (List Cell)). after_signs columns (map Char js) (written_at_rows y 0 rows style d)) (set-get_or d.grid.rows y [])
    ∙ none_join columns y style d js join.1

-- a row of a display that doesn't wrap stands for these cells
pub record IsRow (y : ℕ) (cells : List Cell) (d : Display) : Type 0 where
  pub low : y < d.grid.height
  pub inside : y < length d.grid.rows
  pub unwrapped : d.wraps ≡ false
  pub width : length cells ≡ d.grid.width
  pub stands : Stands (get_or d.grid.rows y []) cells

pub row_width : (y : ℕ) (cells : List Cell) (d : Display) → IsRow y cells d → length (get_or d.grid.rows y []) ≡ d.grid.width
row_width y cells d h = h.stands.size ∙ h.width

-- a character that has room, with those that join it
pub fitting : (columns : ℕ → ℕ) (w : Bool) (c : ℕ) (js : List ℕ) (style : Style) (y x : ℕ) (cells : List Cell) (d : Display)
    → IsWide w (columns c) → Join columns js → IsRow y cells d → x + suc (length (half w)) ≤ d.grid.width
    → after_signs columns (map Char (c ∷ js)) (written_at_rows y x d.grid.rows style d) ≡ with_joined w c js style y x (get_or d.grid.rows y []) d
fitting columns w c js style y x cells d is join h fits =
    let row = get_or d.grid.rows y [] in
    let width : length row ≡ d.grid.width = row_width y cells d h in
    ap (after_signs columns (map Char js)) (char_written w (columns c) c (written_at_rows y x d.grid.rows style d) is fits)
    ∙ join_all columns w c style y x row d js [] join (omega arith) h.inside

-- it stands for the grid's cell
fitting_left : (columns : ℕ → ℕ) (w : Bool) (c : ℕ) (js : List ℕ) (style : Style) (y x : ℕ) (cells : List Cell) (d : Display)
    → IsWide w (columns c) → Join columns js → IsRow y cells d → x + suc (length (half w)) ≤ d.grid.width → cell_at cells x ≡ Holds c js style
    → Leaves y cells style d (after_signs columns (map Char (c ∷ js)) (written_at_rows y x d.grid.rows style d))
fitting_left columns w c js style y x cells d is join h fits at =
    let row = get_or d.grid.rows y [] in
    let width : length row ≡ d.grid.width = row_width y cells d h in record {
      row = splice x (Holds c js style ∷ half w) row;
      column = x + suc (length (half w));
      stands = stands_written x (Holds c js style) w row cells cells (omega arith) h.stands refl (λ k out. refl) at;
      is = fitting columns w c js style y x cells d is join h fits;
    }

-- a wide one in the last column
last_left : (columns : ℕ → ℕ) (n c : ℕ) (js : List ℕ) (style : Style) (y x : ℕ) (cells : List Cell) (d : Display)
    → columns c ≡ suc (suc n) → Join columns js → IsRow y cells d → x + 2 ≡ d.grid.width → cell_at cells (x + 1) ≡ Holds c js style
    → Leaves y cells style d (after_signs columns (map Char (c ∷ js)) (written_at_rows y (x + 1) d.grid.rows style d))
last_left columns n c js style y x cells d wide join h last at =
    let row = get_or d.grid.rows y [] in
    let width : length row ≡ d.grid.width = row_width y cells d h in record {
      row = splice x (Holds c js style ∷ Half ∷ []) row;
      column = x + 2;
      stands = stands_at_edge x (Holds c js style) row cells (omega arith) h.stands at;
      is = ap (λ (m : ℕ). after_signs columns (map Char js) (after_char m c (written_at_rows y (x + 1) d.grid.rows style d))) wide
          ∙ ap (after_signs columns (map Char js)) (moved_left n c y x style d h.unwrapped last)
          ∙ ap (after_signs columns (map Char js)) (char_written true (suc (suc n)) c (written_at_rows y x d.grid.rows style d) (omega arith) (omega arith))
          ∙ join_all columns true c style y x row d js [] join (omega arith) h.inside;
    }

-- a wide one in the only column
only_left : (columns : ℕ → ℕ) (n c : ℕ) (js : List ℕ) (style : Style) (y : ℕ) (cells : List Cell) (d : Display)
    → columns c ≡ suc (suc n) → Join columns js → IsRow y cells d → d.grid.width ≡ 1
    → Leaves y cells style d (after_signs columns (map Char (c ∷ js)) (written_at_rows y 0 d.grid.rows style d))
only_left columns n c js style y cells d wide join h narrow =
    let row = get_or d.grid.rows y [] in
    let width : length row ≡ d.grid.width = row_width y cells d h in
    let next = written_at_rows y 0 (set d.grid.rows y (splice 0 [] row)) style d in record {
      row = splice 0 [] row;
      column = 0;
      stands = stands_torn 0 row cells (omega arith) h.stands;
      is = ap (λ (m : ℕ). after_signs columns (map Char js) (after_char m c (written_at_rows y 0 d.grid.rows style d))) wide
          ∙ ap (after_signs columns (map Char js)) (without_room n c y style d h.unwrapped narrow)
          ∙ none_join columns y style next js join;
    }

-- one in the last column
at_edge_left : (columns : ℕ → ℕ) (n c : ℕ) (js : List ℕ) (style : Style) (y x : ℕ) (cells : List Cell) (d : Display)
    → columns c ≡ suc (suc n) → Join columns js → IsRow y cells d → x + 1 ≡ d.grid.width → cell_at cells x ≡ Holds c js style
    → Leaves y cells style d (after_signs columns (map Char (c ∷ js)) (written_at_rows y x d.grid.rows style d))
at_edge_left columns n c js style y zero cells d is join h last at = only_left columns n c js style y cells d is join h (omega arith)
at_edge_left columns n c js style y (suc x) cells d is join h last at =
    let e : x + 1 ≡ suc x = omega arith in
    subst (λ (m : ℕ). Leaves y cells style d (after_signs columns (map Char (c ∷ js)) (written_at_rows y m d.grid.rows style d))) e
    (last_left columns n c js style y x cells d is join h (omega arith) (ap (λ (m : ℕ). cell_at cells m) e ∙ at))

-- a character of any columns, over cells that show their own
any_left : (columns : ℕ → ℕ) (n c : ℕ) (js : List ℕ) (style : Style) (y x : ℕ) (cells : List Cell) (d : Display)
    → columns c ≡ suc n → Join columns js → IsRow y cells d → x < d.grid.width → cell_at cells x ≡ Holds c js style
    → Leaves y cells style d (after_signs columns (map Char (c ∷ js)) (written_at_rows y x d.grid.rows style d))
any_left columns zero c js style y x cells d is join h inside at =
    fitting_left columns false c js style y x cells d is join h (omega arith) at
any_left columns (suc n) c js style y x cells d is join h inside at =
    elim (cases_lt (x + 1) d.grid.width) [
      | inl room ↦ fitting_left columns true c js style y x cells d (omega arith) join h (omega arith) at
      | inr edge ↦ at_edge_left columns n c js style y x cells d is join h (omega arith) at
    ]

-- what is left of a display with another row, which is written over, is left of it
left_more : (y x : ℕ) (blanked others : List Cell) (style : Style) (d e : Display) → Leaves y others style (written_at_rows y x (set d.grid.rows y blanked) style d) e → Leaves y others style d e
left_more y x blanked others style d e left = record {
  row = left.row;
  column = left.column;
  stands = left.stands;
  is = left.is ∙ ap (λ (rows : List (List Cell)). written_at_rows y left.column rows style d) (set-set d.grid.rows y blanked left.row);
}

-- a row that was blanked
blanked_row : (y x n : ℕ) (style : Style) (cells others : List Cell) (d : Display) → IsRow y cells d → x < d.grid.width → x + n ≤ d.grid.width → length others ≡ length cells → SameBut x n cells others
    → IsRow y others (written_at_rows y x (set d.grid.rows y (splice x (replicate n (cell_of style 32)) (get_or d.grid.rows y []))) style d)
blanked_row y x n style cells others d h left fits size same =
    let row = get_or d.grid.rows y [] in
    let width : length row ≡ d.grid.width = row_width y cells d h in
    let blanked = splice x (replicate n (cell_of style 32)) row in
    record {
      low = h.low;
      inside = omega (arith, h.inside, length-set d.grid.rows y blanked);
      unwrapped = h.unwrapped;
      width = size ∙ h.width;
      stands = subst (λ (r : List Cell). Stands r others) (sym (get_or-set_same d.grid.rows y blanked [] h.inside)) (stands_blank x n style row cells others (omega arith) (omega arith) h.stands size same);
    }

-- a character over blanks
pub cleared_left : (columns : ℕ → ℕ) → AreWidths columns → (m : Bool) (n c : ℕ) (js : List ℕ) (style : Style) (y x : ℕ) (cells others : List Cell) (d : Display)
    → columns c ≡ suc n → Join columns js → IsRow y cells d → x + suc (length (half m)) ≤ d.grid.width → length others ≡ length cells → SameBut x (suc (length (half m))) cells others
    → cell_at others x ≡ Holds c js style
    → Leaves y others style d (after_signs columns ((map Char (replicate (suc (length (half m))) 32) ++ MoveTo y x ∷ []) ++ map Char (c ∷ js)) (styled_by style (moved_to y x d)))
cleared_left columns widths m n c js style y x cells others d is join h fits size same at =
    let count = suc (length (half m)) in
    let blanks = map Char (replicate count 32) ++ MoveTo y x ∷ [] in
    let text = map Char (c ∷ js) in
    let start = styled_by style (moved_to y x d) in
    let blanked = splice x (replicate count (cell_of style 32)) (get_or d.grid.rows y []) in
    let next = written_at_rows y x (set d.grid.rows y blanked) style d in
    let ready = blanked_row y x count style cells others d h (omega arith) fits size same in
    subst (λ (e : Display). Leaves y others style d e) (sym (after_append columns blanks text start))
    (subst (λ (e : Display). Leaves y others style d (after_signs columns text e)) (sym (cleared columns (widths.certain 32 refl) m y x style d h.low h.inside (row_width y cells d h) fits))
    (left_more y x blanked others style d (after_signs columns text next) (any_left columns n c js style y x others next is join ready (omega arith) at)))
