-- The bytes of lists of signs, and the signs of what is left of a grid.
use Rattle.std.proofs.Common.{◌≡◌, ℕ, ◌+◌, ◌<◌, Bool, true, false, cond, ◌||◌, Option, None, List, [], ◌∷◌, ◌++◌, length, get_or, map, drop, drop-cons, suc, not, inl, inr, refl, sym, ap, ◌∙◌, append_assoc, arith}
use Rattle.std.specs.Prelude.{min, replicate}
use Rattle.std.specs.List.{AllByRecursion}
use Rattle.std.proofs.lemmas.Bool.{cases_lt}
use Rattle.std.proofs.lemmas.List.{drop_all, drop_more, get_or-map, get_or-replicate, length-map, length-replicate}
use Rattle.std.proofs.lemmas.List.Elements.{recursion_from_All}
use Rattle.prodash_tui.specs.declared.cell.Cell.{Cell}
use Rattle.prodash_tui.specs.declared.cell.Cell.TheVariants.{Holds, Half}
use Rattle.prodash_tui.specs.declared.cursor.Cursor.{Cursor}
use Rattle.prodash_tui.specs.declared.sign.Sign.{Sign}
use Rattle.prodash_tui.specs.declared.sign.Sign.TheVariants.{EraseScreen, SetStyle}
use Rattle.prodash_tui.specs.Cells.{blank_cell, blank_cells, cell_at, is_half, plain, same_cell}
use Rattle.prodash_tui.specs.Grids.{IsSheet, Sheet}
use Rattle.prodash_tui.specs.Signs.{spelling, spelling_of}
use Rattle.prodash_tui.specs.Differences.{half_of, row_changes}
use Rattle.prodash_tui.specs.Frames.{change_signs, changes_of, cursor_behind, first_frame, row_cursor, row_signs, rows_signs}
use Rattle.prodash_tui.specs.plumbing.Appended.{blank_like, changes_from, cursor_past, first_signs, signs_at}

pub spelling-append : (a b : List Sign) → spelling (a ++ b) ≡ spelling a ++ spelling b
spelling-append [] b = refl
spelling-append (s ∷ a) b = ap (λ (bytes : List ℕ). spelling_of s ++ bytes) (spelling-append a b) ∙ sym (append_assoc (spelling_of s) (spelling a) (spelling b))

-- bytes behind which those of some signs and of others are
pub spelled_more : (out : List ℕ) (a b : List Sign) → (out ++ spelling a) ++ spelling b ≡ out ++ spelling (a ++ b)
spelled_more out a b = append_assoc out (spelling a) (spelling b) ∙ ap (λ (bytes : List ℕ). out ++ bytes) (sym (spelling-append a b))

-- ---- what is left of a row

signs_either : (row k : ℕ) (half : List Cell) (rest : List (ℕ × List Cell)) (cursor : Option Cursor) (t : Bool) (b : Cell)
    → row_signs row (cond (t || is_half b) rest ((k, b ∷ half) ∷ rest)) cursor
    ≡ cond t [] (change_signs row k (b ∷ half) cursor) ++ row_signs row rest (cond t cursor (cursor_behind row k (b ∷ half) cursor))
signs_either row k half rest cursor true b = refl
signs_either row k half rest cursor false (Holds c js style) = refl
signs_either row k half rest cursor false Half = refl

cursor_either : (row k : ℕ) (half : List Cell) (rest : List (ℕ × List Cell)) (cursor : Option Cursor) (t : Bool) (b : Cell)
    → row_cursor row (cond (t || is_half b) rest ((k, b ∷ half) ∷ rest)) cursor ≡ row_cursor row rest (cond t cursor (cursor_behind row k (b ∷ half) cursor))
cursor_either row k half rest cursor true b = refl
cursor_either row k half rest cursor false (Holds c js style) = refl
cursor_either row k half rest cursor false Half = refl

-- the signs of one cell, and then those of the rest
signs_left : (row k : ℕ) (old new : List Cell) (cursor : Option Cursor) → k < length old → k < length new
    → row_signs row (changes_from k old new) cursor
    ≡ signs_at row k (cell_at old k) (drop k new) cursor ++ row_signs row (changes_from (k + 1) old new) (cursor_past row k (cell_at old k) (drop k new) cursor)
signs_left row k old new cursor inside within =
    let a = drop_more old k blank_cell inside in
    let b = drop_more new k blank_cell within in
    let rest = changes_from (k + 1) old new in
    (λ i. row_signs row (row_changes same_cell k (a i) (b i)) cursor)
    ∙ signs_either row k (half_of (drop (k + 1) new)) rest cursor (same_cell (cell_at old k) (cell_at new k)) (cell_at new k)
    ∙ ap (λ (cells : List Cell). signs_at row k (cell_at old k) cells cursor ++ row_signs row rest (cursor_past row k (cell_at old k) cells cursor)) (sym b)

cursor_left : (row k : ℕ) (old new : List Cell) (cursor : Option Cursor) → k < length old → k < length new
    → row_cursor row (changes_from k old new) cursor ≡ row_cursor row (changes_from (k + 1) old new) (cursor_past row k (cell_at old k) (drop k new) cursor)
cursor_left row k old new cursor inside within =
    let a = drop_more old k blank_cell inside in
    let b = drop_more new k blank_cell within in
    let rest = changes_from (k + 1) old new in
    (λ i. row_cursor row (row_changes same_cell k (a i) (b i)) cursor)
    ∙ cursor_either row k (half_of (drop (k + 1) new)) rest cursor (same_cell (cell_at old k) (cell_at new k)) (cell_at new k)
    ∙ ap (λ (cells : List Cell). row_cursor row rest (cursor_past row k (cell_at old k) cells cursor)) (sym b)

-- the bytes after one more cell
pub row_more : (row k : ℕ) (a : Cell) (cells old new : List Cell) (before after all : List ℕ) (cursor next : Option Cursor) → k < length old → k < length new
    → cell_at old k ≡ a → drop k new ≡ cells
    → after ≡ before ++ spelling (signs_at row k a cells cursor) → next ≡ cursor_past row k a cells cursor
    → before ++ spelling (row_signs row (changes_from k old new) cursor) ≡ all
    → after ++ spelling (row_signs row (changes_from (k + 1) old new) next) ≡ all
row_more row k a cells old new before after all cursor next inside within first rest bytes moves so_far =
    let rest_signs = row_signs row (changes_from (k + 1) old new) (cursor_past row k a cells cursor) in
    ap (λ (c : Option Cursor). after ++ spelling (row_signs row (changes_from (k + 1) old new) c)) moves
    ∙ ap (λ (bs : List ℕ). bs ++ spelling rest_signs) bytes
    ∙ spelled_more before (signs_at row k a cells cursor) rest_signs
    ∙ (λ i. before ++ spelling (signs_at row k (sym first i) (sym rest i) cursor ++ row_signs row (changes_from (k + 1) old new) (cursor_past row k (sym first i) (sym rest i) cursor)))
    ∙ ap (λ (signs : List Sign). before ++ spelling signs) (sym (signs_left row k old new cursor inside within))
    ∙ so_far

-- the cursor then
pub cursor_more : (row k : ℕ) (a : Cell) (cells old new : List Cell) (all cursor next : Option Cursor) → k < length old → k < length new
    → cell_at old k ≡ a → drop k new ≡ cells → next ≡ cursor_past row k a cells cursor → row_cursor row (changes_from k old new) cursor ≡ all
    → row_cursor row (changes_from (k + 1) old new) next ≡ all
cursor_more row k a cells old new all cursor next inside within first rest moves so_far =
    ap (row_cursor row (changes_from (k + 1) old new)) moves
    ∙ (λ i. row_cursor row (changes_from (k + 1) old new) (cursor_past row k (sym first i) (sym rest i) cursor))
    ∙ sym (cursor_left row k old new cursor inside within)
    ∙ so_far

-- a cell that stays is no change
pub same_left : (k n : ℕ) (a b : Cell) (old new : List Cell) → k < length old → k < length new → get_or old k a ≡ a → get_or new k b ≡ b → same_cell a b ≡ true → n ≡ k + 1
    → changes_from k old new ≡ changes_from n old new
same_left k n a b old new inside within first second same is =
    let d = drop-cons old k a inside ∙ ap (λ (c : Cell). c ∷ drop (suc k) old) first in
    let e = drop-cons new k b within ∙ ap (λ (c : Cell). c ∷ drop (suc k) new) second in
    let next : suc k ≡ n = omega arith in
    let one : suc k ≡ k + 1 = omega arith in
    (λ i. row_changes same_cell k (d i) (e i))
    ∙ (λ i. cond (same i || is_half b) (row_changes same_cell (k + 1) (drop (suc k) old) (drop (suc k) new)) ((k, b ∷ half_of (drop (suc k) new)) ∷ row_changes same_cell (k + 1) (drop (suc k) old) (drop (suc k) new)))
    ∙ (λ i. row_changes same_cell (sym one i) (drop (suc k) old) (drop (suc k) new))
    ∙ ap (λ (m : ℕ). changes_from m old new) next

none_of : (k : ℕ) (old : List Cell) → row_changes same_cell k old [] ≡ []
none_of k [] = refl
none_of k (a ∷ old) = refl

-- behind the end nothing is left
pub none_left : (k : ℕ) (old new : List Cell) → k ≡ min (length old) (length new) → changes_from k old new ≡ []
none_left k old new end = elim (cases_lt (length old) (length new)) [
  | inl shorter ↦ ap (λ (cells : List Cell). row_changes same_cell k cells (drop k new)) (drop_all k old (omega arith))
  | inr longer ↦ ap (λ (cells : List Cell). row_changes same_cell k (drop k old) cells) (drop_all k new (omega arith)) ∙ none_of k (drop k old)
]

-- ---- what is left of a grid

pub rows_left : (y : ℕ) (old new : List (List Cell)) (cursor : Option Cursor) → y < length old → y < length new
    → rows_signs y (drop y old) (drop y new) cursor
    ≡ row_signs y (changes_of (get_or old y []) (get_or new y [])) cursor
    ++ rows_signs (y + 1) (drop (y + 1) old) (drop (y + 1) new) (row_cursor y (changes_of (get_or old y []) (get_or new y [])) cursor)
rows_left y old new cursor inside within =
    let a = drop_more old y [] inside in
    let b = drop_more new y [] within in
    λ i. rows_signs y (a i) (b i) cursor

no_rows_of : (y : ℕ) (old : List (List Cell)) (cursor : Option Cursor) → rows_signs y old [] cursor ≡ []
no_rows_of y [] cursor = refl
no_rows_of y (a ∷ old) cursor = refl

pub no_rows_left : (y : ℕ) (old new : List (List Cell)) (cursor : Option Cursor) → y ≡ min (length old) (length new) → rows_signs y (drop y old) (drop y new) cursor ≡ []
no_rows_left y old new cursor end = elim (cases_lt (length old) (length new)) [
  | inl shorter ↦ ap (λ (rows : List (List Cell)). rows_signs y rows (drop y new) cursor) (drop_all y old (omega arith))
  | inr longer ↦ ap (λ (rows : List (List Cell)). rows_signs y (drop y old) rows cursor) (drop_all y new (omega arith)) ∙ no_rows_of y (drop y old) cursor
]

-- ---- what is left of a grid over blank cells

-- a cell of a blank row
pub blank_at : (new : List Cell) (k : ℕ) → k < length new → cell_at (blank_like new) k ≡ blank_cell
blank_at new k inside = get_or-replicate (length new) k blank_cell blank_cell inside

pub length-blank_like : (new : List Cell) → length (blank_like new) ≡ length new
length-blank_like new = length-replicate (length new) blank_cell

pub none_over_blank : (k : ℕ) (new : List Cell) → k ≡ length new → changes_from k (blank_like new) new ≡ []
none_over_blank k new end = none_left k (blank_like new) new (let e : k ≡ min (length (blank_like new)) (length new) = omega (arith, length-blank_like new) in e)

pub rows_over_blank : (y : ℕ) (new : List (List Cell)) (cursor : Option Cursor) → y < length new
    → rows_signs y (drop y (map blank_like new)) (drop y new) cursor
    ≡ row_signs y (changes_of (blank_like (get_or new y [])) (get_or new y [])) cursor
    ++ rows_signs (y + 1) (drop (y + 1) (map blank_like new)) (drop (y + 1) new) (row_cursor y (changes_of (blank_like (get_or new y [])) (get_or new y [])) cursor)
rows_over_blank y new cursor inside =
    let row = get_or new y [] in
    let rest = drop (y + 1) (map blank_like new) in
    let blank : get_or (map blank_like new) y [] ≡ blank_like row = get_or-map blank_like new y [] [] inside in
    rows_left y (map blank_like new) new cursor (omega (arith, length-map new blank_like)) inside
    ∙ ap (λ (cells : List Cell). row_signs y (changes_of cells row) cursor ++ rows_signs (y + 1) rest (drop (y + 1) new) (row_cursor y (changes_of cells row) cursor)) blank

-- the bytes after one more row
pub rows_more_over_blank : (y : ℕ) (row : List Cell) (new : List (List Cell)) (before after all : List ℕ) (cursor next : Option Cursor) → y < length new → get_or new y [] ≡ row
    → after ≡ before ++ spelling (row_signs y (changes_of (blank_like row) row) cursor) → next ≡ row_cursor y (changes_of (blank_like row) row) cursor
    → before ++ spelling (rows_signs y (drop y (map blank_like new)) (drop y new) cursor) ≡ all
    → after ++ spelling (rows_signs (y + 1) (drop (y + 1) (map blank_like new)) (drop (y + 1) new) next) ≡ all
rows_more_over_blank y row new before after all cursor next inside is bytes moves so_far =
    let signs = λ (r : List Cell). row_signs y (changes_of (blank_like r) r) cursor in
    let rest = λ (k : Option Cursor). rows_signs (y + 1) (drop (y + 1) (map blank_like new)) (drop (y + 1) new) k in
    let behind = λ (r : List Cell). row_cursor y (changes_of (blank_like r) r) cursor in
    ap (λ (k : Option Cursor). after ++ spelling (rest k)) moves
    ∙ ap (λ (bs : List ℕ). bs ++ spelling (rest (behind row))) bytes
    ∙ spelled_more before (signs row) (rest (behind row))
    ∙ ap (λ (r : List Cell). before ++ spelling (signs r ++ rest (behind r))) (sym is)
    ∙ ap (λ (all_signs : List Sign). before ++ spelling all_signs) (sym (rows_over_blank y new cursor inside))
    ∙ so_far

pub no_rows_over_blank : (y : ℕ) (new : List (List Cell)) (cursor : Option Cursor) → y ≡ length new → rows_signs y (drop y (map blank_like new)) (drop y new) cursor ≡ []
no_rows_over_blank y new cursor end =
    no_rows_left y (map blank_like new) new cursor (let e : y ≡ min (length (map blank_like new)) (length new) = omega (arith, length-map new blank_like) in e)

-- blank rows as wide as those of a grid are those of a blank grid
blank_rows : (width : ℕ) (rows : List (List Cell)) → AllByRecursion (λ row. length row ≡ width) rows → map blank_like rows ≡ replicate (length rows) (blank_cells width)
blank_rows width [] wide = refl
blank_rows width (row ∷ rows) wide = λ i. blank_cells (wide.0 i) ∷ blank_rows width rows wide.1 i

pub over_blank_grid : (g : Sheet) → IsSheet g → first_signs g.rows ≡ first_frame g
over_blank_grid g is =
    let rows = blank_rows g.width g.rows (recursion_from_All (λ (row : List Cell). length row ≡ g.width) g.rows is.each) in
    ap (λ (blank : List (List Cell)). SetStyle plain ∷ EraseScreen ∷ rows_signs 0 blank g.rows None)
    (rows ∙ ap (λ (n : ℕ). replicate n (blank_cells g.width)) is.high)

-- ---- a cell that stays

-- it has no signs, and the cursor stays
pub no_signs : (row k : ℕ) (a b : Cell) (others : List Cell) (cursor : Option Cursor) → same_cell a b ≡ true → signs_at row k a (b ∷ others) cursor ≡ []
no_signs row k a b others cursor same = ap (λ (is : Bool). cond is [] (change_signs row k (b ∷ half_of others) cursor)) same

pub no_motion : (row k : ℕ) (a b : Cell) (others : List Cell) (cursor : Option Cursor) → same_cell a b ≡ true → cursor_past row k a (b ∷ others) cursor ≡ cursor
no_motion row k a b others cursor same = ap (λ (is : Bool). cond is cursor (cursor_behind row k (b ∷ half_of others) cursor)) same

pub is_same : (is : Bool) → false ≡ not is → is ≡ true
is_same true h = refl
is_same false h = cc

-- what is left of a row from a cell on
pub cells_from : (k : ℕ) (b : Cell) (new : List Cell) → k < length new → get_or new k blank_cell ≡ b → drop k new ≡ b ∷ drop (suc k) new
cells_from k b new within first = drop-cons new k blank_cell within ∙ ap (λ (c : Cell). c ∷ drop (suc k) new) first
