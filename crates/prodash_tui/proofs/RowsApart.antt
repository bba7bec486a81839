-- Frames write into each row only characters of that row of their grid, and spaces.
use Rattle.std.proofs.Common.{◌≡◌, ℕ, zero, suc, ◌+◌, ◌-◌, ◌<◌, ◌≤◌, Bool, true, false, cond, ◌||◌, nat_eq, List, [], ◌∷◌, ◌++◌, length, map, Option, Some, None, refl, sym, subst, ◌∙◌, arith}
use Rattle.std.specs.Prelude.{min, replicate, slice_set, slice_index_or, ⊤}
use Rattle.std.specs.List.{AllByRecursion}
use Rattle.std.proofs.lemmas.Bool.{and_parts}
use Rattle.prodash_base.specs.plumbing.EqualityTests.{numbers, sound}
use Rattle.prodash_line.proofs.Lists.{AllByRecursion-append, AllByRecursion-replicate}
use Rattle.prodash_tui.specs.declared.cell.Cell.{Cell}
use Rattle.prodash_tui.specs.declared.cell.Cell.TheVariants.{Holds, Half}
use Rattle.prodash_tui.specs.declared.cursor.Cursor.{Cursor}
use Rattle.prodash_tui.specs.declared.sign.Sign.{Sign}
use Rattle.prodash_tui.specs.declared.sign.Sign.TheVariants.{Char, MoveTo, SetStyle}
use Rattle.prodash_tui.specs.declared.style.Style.{Style}
use Rattle.prodash_tui.specs.Cells.{cell_at, cell_of, is_half, plain, same_cell, same_style}
use Rattle.prodash_tui.specs.Differences.{half_of, row_changes}
use Rattle.prodash_tui.specs.Displays.{Display, after_char, after_sign, after_signs, erased, first_half, in_cursor_row, join_before, more_joined, with_wrapped, with_written}
use Rattle.prodash_tui.specs.Frames.{are_certain, change_signs, changes_of, clearing, cursor_behind, difference, is_at, motion, row_cursor, row_signs, rows_signs, style_change}
use Rattle.prodash_tui.specs.Grids.{Sheet, blank_sheet}
use Rattle.prodash_tui.specs.HeldCharacters.{CellHolds, IsOf, KeepsToRows, RowHolds, RowsHold, ShowsOwnRows}
use Rattle.prodash_tui.specs.Rows.{splice}
use Rattle.prodash_tui.specs.Texts.{cells_with, cut}
use Rattle.prodash_tui.proofs.HeldCharacters.{at_held, cut_held, set_held, splice_held}
use Rattle.prodash_tui.proofs.PlayedChanges.{after_append, stays_unwrapped}

-- a space is such a character in each row
abbrev HaveSpaces : (ℕ → ℕ → Type 0) → Type 0
HaveSpaces P = (y : ℕ) → P y 32

-- ---- rows of a display

row_held : (P : ℕ → ℕ → Type 0) (first : ℕ) (rows : List (List Cell)) (y k : ℕ) → first + y ≡ k → RowsHold P first rows → RowHolds (P k) (slice_index_or rows y [])
row_held P first [] y k e h = tt
row_held P first (row ∷ rows) zero k e h = subst (λ (n : ℕ). RowHolds (P n) row) (let n : first ≡ k = omega (arith, e) in n) h.0
row_held P first (row ∷ rows) (suc y) k e h = row_held P (first + 1) rows y k (omega (arith, e)) h.1

set_row_held : (P : ℕ → ℕ → Type 0) (first : ℕ) (rows : List (List Cell)) (y k : ℕ) (row : List Cell) → first + y ≡ k → RowHolds (P k) row → RowsHold P first rows → RowsHold P first (slice_set rows y row)
set_row_held P first [] y k row e h hs = tt
set_row_held P first (old ∷ rows) zero k row e h hs = (subst (λ (n : ℕ). RowHolds (P n) row) (let n : k ≡ first = omega (arith, e) in n) h, hs.1)
set_row_held P first (old ∷ rows) (suc y) k row e h hs = (hs.0, set_row_held P (first + 1) rows y k row (omega (arith, e)) h hs.1)

-- what stays so in a frame: the display doesn't wrap, has this height, and holds only such characters
record Keeps (P : ℕ → ℕ → Type 0) (height : ℕ) (d : Display) : Type 0 where
  unwrapped : d.wraps ≡ false
  high : d.grid.height ≡ height
  held : RowsHold P 0 d.grid.rows

-- with its cursor in row y
record Within (P : ℕ → ℕ → Type 0) (height y : ℕ) (d : Display) : Type 0 where
  keeps : Keeps P height d
  row : d.cursor.row ≡ y

-- ---- a character

in_row_held : (P : ℕ → ℕ → Type 0) (height y : ℕ) (f : List Cell → List Cell) (d : Display) → ((row : List Cell) → RowHolds (P y) row → RowHolds (P y) (f row)) → Within P height y d → Within P height y (in_cursor_row f d)
in_row_held P height y f d keeps h =
    let old = row_held P 0 d.grid.rows d.cursor.row y (omega (arith, h.row)) h.keeps.held in record {
      keeps = record {
        unwrapped = h.keeps.unwrapped;
        high = h.keeps.high;
        held = set_row_held P 0 d.grid.rows d.cursor.row y (f (slice_index_or d.grid.rows d.cursor.row [])) (omega (arith, h.row)) (keeps (slice_index_or d.grid.rows d.cursor.row []) old) h.keeps.held;
      };
      row = h.row;
    }

more_held : (P : ℕ → Type 0) (c : ℕ) (cell : Cell) → P c → CellHolds P cell → CellHolds P (more_joined c cell)
more_held P c (Holds d others style) h hs = (hs.0, AllByRecursion-append P others (c ∷ []) hs.1 (h, tt))
more_held P c Half h hs = tt

joined_held : (P : ℕ → Type 0) → P 32 → (column c : ℕ) (row : List Cell) → P c → RowHolds P row → RowHolds P (join_before column c row)
joined_held P space zero c row h hs = hs
joined_held P space (suc k) c row h hs =
    let n = first_half row k in
    set_held P row n (more_joined c (cell_at row n)) (more_held P c (cell_at row n) h (at_held P space row n hs)) hs

one_held : (P : ℕ → Type 0) (style : Style) (n c : ℕ) → P c → RowHolds P (cells_with style (suc n) c [] [])
one_held P style zero c h = ((h, tt), tt)
one_held P style (suc n) c h = ((h, tt), (tt, tt))

written_held : (P : ℕ → ℕ → Type 0) → HaveSpaces P → (height y : ℕ) (new : List Cell) (d : Display) → RowHolds (P y) new → Within P height y d → Within P height y (with_written new d)
written_held P spaces height y new d h hs =
    let x = min d.cursor.column (d.grid.width - length new) in
    let in_row = in_row_held P height y (splice x new) d (λ row i. splice_held (P y) (spaces y) x new row h i) hs in record {
      keeps = record { unwrapped = in_row.keeps.unwrapped; high = in_row.keeps.high; held = in_row.keeps.held };
      row = in_row.row;
    }

wrapped_held : (P : ℕ → ℕ → Type 0) → HaveSpaces P → (height y : ℕ) (new : List Cell) (d : Display) → RowHolds (P y) new → Within P height y d → Within P height y (with_wrapped new d)
wrapped_held P spaces height y new d h hs =
    subst (λ (e : Display). Within P height y e) (sym (stays_unwrapped new d hs.keeps.unwrapped)) (written_held P spaces height y new d h hs)

char_held : (P : ℕ → ℕ → Type 0) → HaveSpaces P → (height y n c : ℕ) (d : Display) → P y c → Within P height y d → Within P height y (after_char n c d)
char_held P spaces height y zero c d h hs = in_row_held P height y (join_before d.cursor.column c) d (λ row i. joined_held (P y) (spaces y) d.cursor.column c row h i) hs
char_held P spaces height y (suc n) c d h hs =
    wrapped_held P spaces height y (cut d.grid.width (cells_with d.cursor.style (suc n) c [] [])) d (cut_held (P y) d.grid.width (cells_with d.cursor.style (suc n) c [] []) (one_held (P y) d.cursor.style n c h)) hs

-- characters, one after another
chars_held : (P : ℕ → ℕ → Type 0) → HaveSpaces P → (columns : ℕ → ℕ) (height y : ℕ) (cs : List ℕ) (d : Display) → AllByRecursion (P y) cs → Within P height y d → Within P height y (after_signs columns (map Char cs) d)
chars_held P spaces columns height y [] d h hs = hs
chars_held P spaces columns height y (c ∷ cs) d h hs = chars_held P spaces columns height y cs (after_char (columns c) c d) h.1 (char_held P spaces height y (columns c) c d h.0 hs)

-- ---- motions and styles

moves_in : (P : ℕ → ℕ → Type 0) (columns : ℕ → ℕ) (height y x : ℕ) (d : Display) → y < height → Keeps P height d → Within P height y (after_sign columns (MoveTo y x) d)
moves_in P columns height y x d low h = record {
  keeps = record { unwrapped = h.unwrapped; high = h.high; held = h.held };
  row = let e : min y (d.grid.height - 1) ≡ y = omega (arith, h.high) in e;
}

-- the cursor is in the row in which it is known to be
abbrev KnowsRow : Option Cursor → Display → Type 0
KnowsRow None d = ⊤
KnowsRow (Some cursor) d = d.cursor.row ≡ cursor.row

motion_held : (P : ℕ → ℕ → Type 0) (columns : ℕ → ℕ) (height y x : ℕ) (cursor : Option Cursor) (d : Display) → y < height → KnowsRow cursor d → Keeps P height d
    → Within P height y (after_signs columns (motion y x cursor) d)
motion_held P columns height y x None d low knows h = moves_in P columns height y x d low h
motion_held P columns height y x (Some cursor) d low knows h =
    let go : (b : Bool) → is_at y x cursor ≡ b → Within P height y (after_signs columns (cond b [] (MoveTo y x ∷ [])) d) =
    λ b. elim b as (λ b. is_at y x cursor ≡ b → Within P height y (after_signs columns (cond b [] (MoveTo y x ∷ [])) d)) [
      | true ↦ λ is. record { keeps = h; row = knows ∙ sound numbers cursor.row y (and_parts (nat_eq cursor.row y) (nat_eq cursor.column x) is).0 }
      | false ↦ λ is. moves_in P columns height y x d low h
    ] in
    go (is_at y x cursor) refl

styled_in : (P : ℕ → ℕ → Type 0) (columns : ℕ → ℕ) (height y : ℕ) (style : Style) (d : Display) → Within P height y d → Within P height y (after_sign columns (SetStyle style) d)
styled_in P columns height y style d h = record { keeps = record { unwrapped = h.keeps.unwrapped; high = h.keeps.high; held = h.keeps.held }; row = h.row }

unless_styled : (P : ℕ → ℕ → Type 0) (columns : ℕ → ℕ) (height y : ℕ) (style : Style) (t : Bool) (d : Display) → Within P height y d → Within P height y (after_signs columns (cond t [] (SetStyle style ∷ [])) d)
unless_styled P columns height y style true d h = h
unless_styled P columns height y style false d h = styled_in P columns height y style d h

style_held : (P : ℕ → ℕ → Type 0) (columns : ℕ → ℕ) (height y : ℕ) (style : Style) (cursor : Option Cursor) (d : Display) → Within P height y d → Within P height y (after_signs columns (style_change style cursor) d)
style_held P columns height y style None d h = styled_in P columns height y style d h
style_held P columns height y style (Some cursor) d h = unless_styled P columns height y style (same_style cursor.style style) d h

blanks_held : (P : ℕ → ℕ → Type 0) → HaveSpaces P → (columns : ℕ → ℕ) (height y x : ℕ) (cells : List Cell) (t : Bool) (d : Display) → y < height → Within P height y d
    → Within P height y (after_signs columns (cond t [] (map Char (replicate (length cells) 32) ++ MoveTo y x ∷ [])) d)
blanks_held P spaces columns height y x cells true d low h = h
blanks_held P spaces columns height y x cells false d low h =
    let blanks = map Char (replicate (length cells) 32) in
    let blank = chars_held P spaces columns height y (replicate (length cells) 32) d (AllByRecursion-replicate (P y) (length cells) 32 (spaces y)) h in
    subst (λ (e : Display). Within P height y e) (sym (after_append columns blanks (MoveTo y x ∷ []) d)) (moves_in P columns height y x (after_signs columns blanks d) low blank.keeps)

-- ---- changes

-- after signs, and then others
then_held : (P : ℕ → ℕ → Type 0) (columns : ℕ → ℕ) (height y : ℕ) (a b : List Sign) (d : Display) → Within P height y (after_signs columns b (after_signs columns a d)) → Within P height y (after_signs columns (a ++ b) d)
then_held P columns height y a b d h = subst (λ (e : Display). Within P height y e) (sym (after_append columns a b d)) h

-- the signs of a character leave the cursor in its row
change_held : (P : ℕ → ℕ → Type 0) → HaveSpaces P → (columns : ℕ → ℕ) (height y x c : ℕ) (others : List ℕ) (style : Style) (cells : List Cell) (cursor : Option Cursor) (d : Display)
    → y < height → RowHolds (P y) (Holds c others style ∷ cells) → KnowsRow cursor d → Keeps P height d → Within P height y (after_signs columns (change_signs y x (Holds c others style ∷ cells) cursor) d)
change_held P spaces columns height y x c others style cells cursor d low holds knows h =
    let clear = clearing y x (Holds c others style ∷ cells) in
    let text = map Char (c ∷ others) in
    let d1 = after_signs columns (motion y x cursor) d in
    let d2 = after_signs columns (style_change style cursor) d1 in
    let d3 = after_signs columns clear d2 in
    let h1 : Within P height y d1 = motion_held P columns height y x cursor d low knows h in
    let h2 : Within P height y d2 = style_held P columns height y style cursor d1 h1 in
    let h3 : Within P height y d3 = blanks_held P spaces columns height y x (Holds c others style ∷ cells) (are_certain (Holds c others style ∷ cells)) d2 low h2 in
    let h4 = chars_held P spaces columns height y (c ∷ others) d3 holds.0 h3 in
    then_held P columns height y (motion y x cursor) (style_change style cursor ++ (clear ++ text)) d
    (then_held P columns height y (style_change style cursor) (clear ++ text) d1 (then_held P columns height y clear text d2 h4))

behind_known : (P : ℕ → ℕ → Type 0) (height y x : ℕ) (style : Style) (t : Bool) (d : Display) → Within P height y d → KnowsRow (cond t (Some (record { row = y; column = x + 1; style = style })) None) d
behind_known P height y x style true d h = h.row
behind_known P height y x style false d h = tt

-- what is known behind it
record Known (P : ℕ → ℕ → Type 0) (height : ℕ) (cursor : Option Cursor) (d : Display) : Type 0 where
  keeps : Keeps P height d
  knows : KnowsRow cursor d

change_known : (P : ℕ → ℕ → Type 0) → HaveSpaces P → (columns : ℕ → ℕ) (height y x : ℕ) (cells : List Cell) (cursor : Option Cursor) (d : Display)
    → y < height → RowHolds (P y) cells → Known P height cursor d → Known P height (cursor_behind y x cells cursor) (after_signs columns (change_signs y x cells cursor) d)
change_known P spaces columns height y x [] cursor d low holds h = h
change_known P spaces columns height y x (Half ∷ cells) cursor d low holds h = h
change_known P spaces columns height y x (Holds c others style ∷ cells) cursor d low holds h =
    let within = change_held P spaces columns height y x c others style cells cursor d low holds h.knows h.keeps in record {
      keeps = within.keeps;
      knows = behind_known P height y x style (are_certain (Holds c others style ∷ cells)) (after_signs columns (change_signs y x (Holds c others style ∷ cells) cursor) d) within;
    }

-- changes of which each holds such characters
abbrev ChangesHold : (ℕ → Type 0) → List (ℕ × List Cell) → Type 0
ChangesHold P changes = AllByRecursion (λ c. RowHolds P c.1) changes

row_known : (P : ℕ → ℕ → Type 0) → HaveSpaces P → (columns : ℕ → ℕ) (height y : ℕ) (changes : List (ℕ × List Cell)) (cursor : Option Cursor) (d : Display)
    → y < height → ChangesHold (P y) changes → Known P height cursor d → Known P height (row_cursor y changes cursor) (after_signs columns (row_signs y changes cursor) d)
row_known P spaces columns height y [] cursor d low holds h = h
row_known P spaces columns height y (c ∷ changes) cursor d low holds h =
    let first = change_known P spaces columns height y c.0 c.1 cursor d low holds.0 h in
    subst (λ (e : Display). Known P height (row_cursor y changes (cursor_behind y c.0 c.1 cursor)) e)
    (sym (after_append columns (change_signs y c.0 c.1 cursor) (row_signs y changes (cursor_behind y c.0 c.1 cursor)) d))
    (row_known P spaces columns height y changes (cursor_behind y c.0 c.1 cursor) (after_signs columns (change_signs y c.0 c.1 cursor) d) low holds.1 first)

half_holds : (P : ℕ → Type 0) (new : List Cell) → RowHolds P (half_of new)
half_holds P [] = tt
half_holds P (Holds c others style ∷ new) = tt
half_holds P (Half ∷ new) = (tt, tt)

either_holds : (P : ℕ → Type 0) (t : Bool) (x : ℕ) (b : Cell) (half : List Cell) (changes : List (ℕ × List Cell)) → CellHolds P b → RowHolds P half → ChangesHold P changes → ChangesHold P (cond t changes ((x, b ∷ half) ∷ changes))
either_holds P true x b half changes h i j = j
either_holds P false x b half changes h i j = ((h, i), j)

changes_hold : (P : ℕ → Type 0) (x : ℕ) (old new : List Cell) → RowHolds P new → ChangesHold P (row_changes same_cell x old new)
changes_hold P x [] new h = tt
changes_hold P x (a ∷ old) [] h = tt
changes_hold P x (a ∷ old) (b ∷ new) h =
    either_holds P (same_cell a b || is_half b) x b (half_of new) (row_changes same_cell (x + 1) old new) h.0 (half_holds P new) (changes_hold P (x + 1) old new h.1)

rows_known : (P : ℕ → ℕ → Type 0) → HaveSpaces P → (columns : ℕ → ℕ) (height y : ℕ) (old new : List (List Cell)) (cursor : Option Cursor) (d : Display)
    → y + length new ≤ height → RowsHold P y new → Known P height cursor d → Keeps P height (after_signs columns (rows_signs y old new cursor) d)
rows_known P spaces columns height y [] new cursor d low holds h = h.keeps
rows_known P spaces columns height y (a ∷ old) [] cursor d low holds h = h.keeps
rows_known P spaces columns height y (a ∷ old) (b ∷ new) cursor d low holds h =
    let first = row_known P spaces columns height y (changes_of a b) cursor d (omega arith) (changes_hold (P y) 0 a b holds.0) h in
    subst (λ (e : Display). Keeps P height e) (sym (after_append columns (row_signs y (changes_of a b) cursor) (rows_signs (y + 1) old new (row_cursor y (changes_of a b) cursor)) d))
    (rows_known P spaces columns height (y + 1) old new (row_cursor y (changes_of a b) cursor) (after_signs columns (row_signs y (changes_of a b) cursor) d) (omega arith) holds.1 first)

-- ---- frames

difference_keeps : (P : ℕ → ℕ → Type 0) → HaveSpaces P → (columns : ℕ → ℕ) (before after : Sheet) (d : Display) → length after.rows ≤ d.grid.height → RowsHold P 0 after.rows → Keeps P d.grid.height d
    → Keeps P d.grid.height (after_signs columns (difference before after) d)
difference_keeps P spaces columns before after d low holds h = rows_known P spaces columns d.grid.height 0 before.rows after.rows None d (omega (arith, low)) holds (record { keeps = h; knows = tt })

pub keeps_to_rows : (columns : ℕ → ℕ) → KeepsToRows columns
keeps_to_rows columns test d before after spaces drawn shown holds =
    (difference_keeps (IsOf test) spaces columns before after d (omega (arith, drawn.sheet.high, drawn.size.height)) holds (record { unwrapped = drawn.unwrapped; high = refl; held = shown })).held

blank_rows_hold : (P : ℕ → ℕ → Type 0) → HaveSpaces P → (y height width : ℕ) (style : Style) → RowsHold P y (replicate height (replicate width (cell_of style 32)))
blank_rows_hold P spaces y zero width style = tt
blank_rows_hold P spaces y (suc height) width style = (AllByRecursion-replicate (CellHolds (P y)) width (cell_of style 32) (spaces y, tt), blank_rows_hold P spaces (y + 1) height width style)

pub shows_own_rows : (columns : ℕ → ℕ) → ShowsOwnRows columns
shows_own_rows columns test d after spaces drawn holds =
    let styled = after_sign columns (SetStyle plain) d in
    let blank = erased styled in
    (difference_keeps (IsOf test) spaces columns (blank_sheet after.width after.height) after blank (omega (arith, drawn.sheet.high, drawn.size.height)) holds
    (record { unwrapped = drawn.unwrapped; high = refl; held = blank_rows_hold (IsOf test) spaces 0 d.grid.height d.grid.width (record plain { background = plain.background }) })).held
