-- Drawing words on a grid of readable characters leave one, and so do the panes of a dashboard.
use Rattle.std.proofs.Common.{◌≡◌, ℕ, zero, suc, ◌+◌, ◌-◌, ◌^◌, ◌<◌, ◌≤◌, Bool, true, false, cond, ◌||◌, List, [], ◌∷◌, ◌++◌, length, take, drop, map, Option, Some, None, refl, arith}
use Rattle.std.specs.Prelude.{min, nat_le, replicate, chars}
use Rattle.std.specs.Char.{is_control}
use Rattle.std.specs.List.{AllByRecursion}
use Rattle.std.proofs.lemmas.List.Elements.{recursion_from_All}
use Rattle.prodash_base.specs.Rows.{rows_of}
use Rattle.prodash_core.specs.declared.render.tui.event.Rect.{Rect}
use Rattle.prodash_line.specs.CellRows.{char_columns, joined, joined_with}
use Rattle.prodash_line.specs.DrawnLines.{safe_char}
use Rattle.prodash_line.specs.UnsafeCharacters.{is_unsafe}
use Rattle.prodash_line.proofs.Lists.{AllByRecursion-append, AllByRecursion-drop, AllByRecursion-map, AllByRecursion-replicate, AllByRecursion-take}
use Rattle.prodash_tui.specs.declared.cell.Cell.{Cell}
use Rattle.prodash_tui.specs.declared.cell.Cell.TheVariants.{Holds, Half}
use Rattle.prodash_tui.specs.declared.dashboard.contents.Contents.{Contents}
use Rattle.prodash_tui.specs.declared.style.Color.{Color}
use Rattle.prodash_tui.specs.declared.style.Style.{Style}
use Rattle.prodash_tui.specs.Boards.{Board, area_of, frame_signs, input_of, next_buffers, next_grid, opening, rates_in}
use Rattle.prodash_tui.specs.Cells.{blank_cell, blank_cells, cell_of, on_background, plain}
use Rattle.prodash_tui.specs.Dashboards.{scroll_of, with_task_pane}
use Rattle.prodash_tui.specs.Displays.{Display}
use Rattle.prodash_tui.specs.Frames.{difference, first_frame}
use Rattle.prodash_tui.specs.Grids.{Sheet, blank_sheet, left_of, room_of, with_cells}
use Rattle.prodash_tui.specs.HeldCharacters.{CellHolds}
use Rattle.prodash_tui.specs.Reading.{AreReadable, DashboardsAreReadBack, IsReadable, IsReadableChar, IsReadableGrid, RowHoldsReadable}
use Rattle.prodash_tui.specs.Rows.{in_part, splice}
use Rattle.prodash_tui.specs.Screens.{Buffers, follows, frame}
use Rattle.prodash_tui.specs.Texts.{cells_with, cut, drawn_text, filling, shortened, text_cells, text_cut, text_shortened}
use Rattle.prodash_tui.proofs.HeldCharacters.{choice_held, cut_held, splice_held}
use Rattle.prodash_tui.proofs.KeptPanes.{Words, kept_dashboard}
use Rattle.prodash_tui.proofs.KeptProgress.{kept_pane}
use Rattle.prodash_tui.proofs.OneSpelling.{one_spelling}
use Rattle.prodash_tui.proofs.ReadableFrames.{difference_readable, first_readable}
use Rattle.prodash_tui.proofs.ShownRuns.{next_fits}

-- ---- characters

not_first : (a b : Bool) → a || b ≡ false → a ≡ false
not_first true b e = cc
not_first false b e = refl

replaced : (c : ℕ) (b : Bool) → is_unsafe c ≡ b → IsReadableChar (cond b 0xFFFD c)
replaced c true e = refl
replaced c false e = not_first (is_control c) _ (not_first _ _ (not_first _ _ e))

safe_is_readable : (c : ℕ) → IsReadableChar (safe_char c)
safe_is_readable c = replaced c (is_unsafe c) refl

safe_are_readable : (text : List ℕ) → AllByRecursion IsReadableChar (map safe_char text)
safe_are_readable [] = tt
safe_are_readable (c ∷ text) = (safe_is_readable c, safe_are_readable text)

-- a cell of readable characters
abbrev HoldsReadable : Cell → Type 0
HoldsReadable c = CellHolds IsReadableChar c

-- ---- cells

with_readable : (n c : ℕ) (others : List ℕ) → IsReadableChar c → AllByRecursion IsReadableChar others → AllByRecursion IsReadableChar (joined_with n c others)
with_readable zero c others h hs = (h, hs)
with_readable (suc n) c others h hs = tt

joined_readable : (columns : ℕ → ℕ) (text : List ℕ) → AllByRecursion IsReadableChar text → AllByRecursion IsReadableChar (joined columns text)
joined_readable columns [] h = tt
joined_readable columns (c ∷ text) h = with_readable (columns c) c (joined columns text) h.0 (joined_readable columns text h.1)

cells_readable : (style : Style) (n c : ℕ) (others : List ℕ) (cells : List Cell) → IsReadableChar c → AllByRecursion IsReadableChar others → RowHoldsReadable cells → RowHoldsReadable (cells_with style n c others cells)
cells_readable style zero c others cells h hs rest = rest
cells_readable style (suc zero) c others cells h hs rest = ((h, AllByRecursion-take IsReadableChar 4 others hs), rest)
cells_readable style (suc (suc n)) c others cells h hs rest = ((h, AllByRecursion-take IsReadableChar 4 others hs), (tt, rest))

text_readable : (columns : ℕ → ℕ) (style : Style) (text : List ℕ) → AllByRecursion IsReadableChar text → RowHoldsReadable (text_cells columns style text)
text_readable columns style [] h = tt
text_readable columns style (c ∷ text) h =
    cells_readable style (columns c) c (joined columns text) (text_cells columns style text) h.0 (joined_readable columns text h.1) (text_readable columns style text h.1)

shortened_readable : (style : Style) (n : ℕ) (cells : List Cell) → RowHoldsReadable cells → RowHoldsReadable (shortened style n cells)
shortened_readable style n cells h =
    let fewer = cut (n - 1) cells ++ cell_of style 0x2026 ∷ [] in
    choice_held IsReadableChar (nat_le (length cells) n) cells (take n fewer) h
    (AllByRecursion-take HoldsReadable n fewer (AllByRecursion-append HoldsReadable (cut (n - 1) cells) (cell_of style 0x2026 ∷ []) (cut_held IsReadableChar (n - 1) cells h) ((refl, tt), tt)))

-- ---- rows

mapped : {A : Type 0} (P : A → Type 0) (f : A → A) → ((x : A) → P x → P (f x)) → (xs : List A) → AllByRecursion P xs → AllByRecursion P (map f xs)
mapped P f keeps [] h = tt
mapped P f keeps (x ∷ xs) h = (keeps x h.0, mapped P f keeps xs h.1)

part_kept : {A : Type 0} (P : A → Type 0) (first count : ℕ) (f : A → A) (xs : List A) → ((x : A) → P x → P (f x)) → AllByRecursion P xs → AllByRecursion P (in_part first count f xs)
part_kept P first count f xs keeps h =
    let changed = take count (drop first xs) in
    AllByRecursion-append P (take first xs) _ (AllByRecursion-take P first xs h)
    (AllByRecursion-append P (map f changed) _ (mapped P f keeps changed (AllByRecursion-take P count (drop first xs) (AllByRecursion-drop P first xs h))) (AllByRecursion-drop P (first + count) xs h))

-- ---- grids

abbrev Holding : Sheet → Type 0
Holding g = AllByRecursion RowHoldsReadable g.rows

written : (area : Rect) (count : ℕ) (cells : List Cell) (g : Sheet) → RowHoldsReadable cells → Holding g → Holding (with_cells area count cells g)
written area count cells g h hs =
    part_kept RowHoldsReadable area.y count (splice (left_of area g) cells) g.rows (λ row i. splice_held IsReadableChar refl (left_of area g) cells row h i) hs

drawn_readable : (style : Style) (text : List ℕ) → RowHoldsReadable (text_cells char_columns style (drawn_text text))
drawn_readable style text = text_readable char_columns style (drawn_text text) (safe_are_readable (chars text))

colored : (color : Color) (c : Cell) → HoldsReadable c → HoldsReadable (on_background color c)
colored color (Holds c others style) h = h
colored color Half h = tt

words : Words Holding
words = record {
  text = λ area style text g h. written area (min 1 area.height) (text_cut style (room_of area g) text) g (cut_held IsReadableChar (room_of area g) (text_cells char_columns style (drawn_text text)) (drawn_readable style text)) h;
  shortened = λ area style text g h.
      written area (min 1 area.height) (text_shortened style (room_of area g) text) g (shortened_readable style (room_of area g) (text_cells char_columns style (drawn_text text)) (drawn_readable style text)) h;
  filling = λ area style c g h.
      let copies = replicate (room_of area g) (safe_char c) in
      written area area.height (filling style (room_of area g) c) g
      (cut_held IsReadableChar (room_of area g) (text_cells char_columns style copies) (text_readable char_columns style copies (AllByRecursion-replicate IsReadableChar (room_of area g) (safe_char c) (safe_is_readable c)))) h;
  background = λ area color g h.
      part_kept RowHoldsReadable area.y area.height (in_part (left_of area g) (room_of area g) (on_background color)) g.rows
      (λ row i. part_kept HoldsReadable (left_of area g) (room_of area g) (on_background color) row (colored color) i) h;
}

blank_readable : (width height : ℕ) → Holding (blank_sheet width height)
blank_readable width height = AllByRecursion-replicate RowHoldsReadable height (blank_cells width) (AllByRecursion-replicate HoldsReadable width blank_cell (refl, tt))

-- ---- dashboards

-- a display of this size
abbrev display_of : ℕ → ℕ → Display
display_of width height = record {
  grid = blank_sheet width height;
  cursor = record { row = 0; column = 0; style = plain };
  main = None;
  shows_cursor = true;
  wraps = true;
}

next_readable : (s : Board) (c : Contents) → s.width < 2 ^ 16 → s.height < 2 ^ 16 → IsReadableGrid (next_grid s c)
next_readable s c narrow low =
    let input = input_of s c in
    let g = next_grid s c in
    let fits = next_fits s c (display_of s.width s.height) refl refl in record {
      wide = AllByRecursion-map (λ row. length row ≡ g.width) (λ row. length row ≤ 2 ^ 16) g.rows (λ row e. omega (arith, e, fits.size.width, narrow))
          (recursion_from_All (λ (row : List Cell). length row ≡ g.width) g.rows fits.proper.sheet.each);
      high = omega (arith, fits.proper.sheet.high, fits.size.height, low);
      cells = kept_dashboard words (with_task_pane (rates_in s c) input s.state.task_offset)
          (λ area g h. kept_pane words (rows_of input.rows.now) (rates_in s c) input.at (scroll_of input s.state.task_offset) area g h) s.state input (area_of s)
          (blank_sheet s.width s.height) (blank_readable s.width s.height);
    }

frame_readable : (b : Buffers) → IsReadableGrid b.back → (t : Bool) → AreReadable (cond t (difference b.front b.back) (first_frame b.back))
frame_readable b h true = difference_readable b.front b.back h
frame_readable b h false = first_readable b.back h

opening_readable : (screen : Option Buffers) → AreReadable (opening screen)
opening_readable None = (tt, (tt, (tt, tt)))
opening_readable (Some b) = tt

pub dashboards_are_read_back : DashboardsAreReadBack
dashboards_are_read_back s c signs narrow low readable e =
    let b = next_buffers s (next_grid s c) in
    one_spelling signs (frame_signs s c) readable
    (AllByRecursion-append IsReadable (opening s.screen) (frame b) (opening_readable s.screen) (frame_readable b (next_readable s c narrow low) (follows b))) e
