-- The signs of a frame are readable if its grid holds readable characters.
use Rattle.std.proofs.Common.{ℕ, zero, suc, ◌+◌, ◌^◌, ◌<◌, ◌≤◌, Bool, true, false, cond, ◌||◌, List, [], ◌∷◌, ◌++◌, map, Option, Some, None, refl, arith}
use Rattle.std.specs.Prelude.{replicate, length}
use Rattle.std.specs.List.{AllByRecursion}
use Rattle.prodash_line.proofs.Lists.{AllByRecursion-append}
use Rattle.prodash_tui.specs.declared.cell.Cell.{Cell}
use Rattle.prodash_tui.specs.declared.cell.Cell.TheVariants.{Holds, Half}
use Rattle.prodash_tui.specs.declared.cursor.Cursor.{Cursor}
use Rattle.prodash_tui.specs.declared.sign.Sign.{Sign}
use Rattle.prodash_tui.specs.declared.sign.Sign.TheVariants.{Char, MoveTo, SetStyle}
use Rattle.prodash_tui.specs.declared.style.Style.{Style}
use Rattle.prodash_tui.specs.Cells.{is_half, same_cell, same_style}
use Rattle.prodash_tui.specs.Differences.{half_of, row_changes}
use Rattle.prodash_tui.specs.Frames.{are_certain, change_signs, changes_of, clearing, cursor_behind, difference, first_frame, is_at, motion, row_cursor, row_signs, rows_signs, style_change}
use Rattle.prodash_tui.specs.Grids.{Sheet, blank_sheet}
use Rattle.prodash_tui.specs.HeldCharacters.{CellHolds}
use Rattle.prodash_tui.specs.Reading.{AreReadable, FramesAreReadBack, IsReadable, IsReadableChar, IsReadableGrid, RowHoldsReadable}
use Rattle.prodash_tui.proofs.OneSpelling.{one_spelling}

both : (a b : List Sign) → AreReadable a → AreReadable b → AreReadable (a ++ b)
both a b h i = AllByRecursion-append IsReadable a b h i

-- no signs, or these
unless : (t : Bool) (signs : List Sign) → AreReadable signs → AreReadable (cond t [] signs)
unless true signs h = tt
unless false signs h = h

motion_readable : (row column : ℕ) (cursor : Option Cursor) → row < 2 ^ 16 → column < 2 ^ 16 → AreReadable (motion row column cursor)
motion_readable row column None low near = ((low, near), tt)
motion_readable row column (Some cursor) low near = unless (is_at row column cursor) (MoveTo row column ∷ []) ((low, near), tt)

style_readable : (style : Style) (cursor : Option Cursor) → AreReadable (style_change style cursor)
style_readable style None = (tt, tt)
style_readable style (Some cursor) = unless (same_style cursor.style style) (SetStyle style ∷ []) (tt, tt)

chars_readable : (cs : List ℕ) → AllByRecursion IsReadableChar cs → AreReadable (map Char cs)
chars_readable [] h = tt
chars_readable (c ∷ cs) h = (h.0, chars_readable cs h.1)

space_readable : IsReadableChar 32
space_readable = refl

spaces_readable : (n : ℕ) → AllByRecursion IsReadableChar (replicate n 32)
spaces_readable zero = tt
spaces_readable (suc n) = (space_readable, spaces_readable n)

clearing_readable : (row column : ℕ) (cells : List Cell) → row < 2 ^ 16 → column < 2 ^ 16 → AreReadable (clearing row column cells)
clearing_readable row column cells low near =
    let blanks = map Char (replicate (length cells) 32) in
    unless (are_certain cells) (blanks ++ MoveTo row column ∷ []) (both blanks (MoveTo row column ∷ []) (chars_readable (replicate (length cells) 32) (spaces_readable (length cells))) ((low, near), tt))

change_readable : (row column : ℕ) (cells : List Cell) (cursor : Option Cursor) → row < 2 ^ 16 → column < 2 ^ 16 → RowHoldsReadable cells → AreReadable (change_signs row column cells cursor)
change_readable row column [] cursor low near h = tt
change_readable row column (Half ∷ cells) cursor low near h = tt
change_readable row column (Holds c joined style ∷ cells) cursor low near h =
    both (motion row column cursor) _ (motion_readable row column cursor low near)
    (both (style_change style cursor) _ (style_readable style cursor)
    (both (clearing row column (Holds c joined style ∷ cells)) _ (clearing_readable row column (Holds c joined style ∷ cells) low near) (chars_readable (c ∷ joined) h.0)))

-- changes in columns of 16 bits, of which each has readable characters
abbrev AreChangesReadable : List (ℕ × List Cell) → Type 0
AreChangesReadable changes = AllByRecursion (λ c. (c.0 < 2 ^ 16) × RowHoldsReadable c.1) changes

row_readable : (row : ℕ) (changes : List (ℕ × List Cell)) (cursor : Option Cursor) → row < 2 ^ 16 → AreChangesReadable changes → AreReadable (row_signs row changes cursor)
row_readable row [] cursor low h = tt
row_readable row (c ∷ changes) cursor low h =
    both (change_signs row c.0 c.1 cursor) _ (change_readable row c.0 c.1 cursor low h.0.0 h.0.1) (row_readable row changes (cursor_behind row c.0 c.1 cursor) low h.1)

half_readable : (new : List Cell) → RowHoldsReadable (half_of new)
half_readable [] = tt
half_readable (Holds c joined style ∷ new) = tt
half_readable (Half ∷ new) = (tt, tt)

either_readable : (t : Bool) (x : ℕ) (b : Cell) (half : List Cell) (changes : List (ℕ × List Cell)) → x < 2 ^ 16 → CellHolds IsReadableChar b → RowHoldsReadable half → AreChangesReadable changes
    → AreChangesReadable (cond t changes ((x, b ∷ half) ∷ changes))
either_readable true x b half changes near h i j = j
either_readable false x b half changes near h i j = ((near, (h, i)), j)

changes_readable : (x : ℕ) (old new : List Cell) → x + length new ≤ 2 ^ 16 → RowHoldsReadable new → AreChangesReadable (row_changes same_cell x old new)
changes_readable x [] new wide h = tt
changes_readable x (a ∷ old) [] wide h = tt
changes_readable x (a ∷ old) (b ∷ new) wide h =
    either_readable (same_cell a b || is_half b) x b (half_of new) (row_changes same_cell (x + 1) old new) (omega arith) h.0 (half_readable new) (changes_readable (x + 1) old new (omega arith) h.1)

rows_readable : (row : ℕ) (old new : List (List Cell)) (cursor : Option Cursor) → row + length new ≤ 2 ^ 16 → AllByRecursion (λ cells. length cells ≤ 2 ^ 16) new → AllByRecursion RowHoldsReadable new
    → AreReadable (rows_signs row old new cursor)
rows_readable row [] new cursor high wide h = tt
rows_readable row (a ∷ old) [] cursor high wide h = tt
rows_readable row (a ∷ old) (b ∷ new) cursor high wide h =
    both (row_signs row (changes_of a b) cursor) _ (row_readable row (changes_of a b) cursor (omega arith) (changes_readable 0 a b (omega (arith, wide.0)) h.0))
    (rows_readable (row + 1) old new (row_cursor row (changes_of a b) cursor) (omega arith) wide.1 h.1)

pub difference_readable : (before after : Sheet) → IsReadableGrid after → AreReadable (difference before after)
difference_readable before after h = rows_readable 0 before.rows after.rows None (omega (arith, h.high)) h.wide h.cells

pub first_readable : (after : Sheet) → IsReadableGrid after → AreReadable (first_frame after)
first_readable after h = (tt, (tt, difference_readable (blank_sheet after.width after.height) after h))

pub frames_are_read_back : FramesAreReadBack
frames_are_read_back before after signs h readable = (
  λ e. one_spelling signs (difference before after) readable (difference_readable before after h) e,
  λ e. one_spelling signs (first_frame after) readable (first_readable after h) e,
)
