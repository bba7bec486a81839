-- Where a terminal gives each character one column, a page of cells shows what a page of characters shows.
use Rattle.std.proofs.Common.{◌≡◌, ℕ, zero, suc, ◌+◌, ◌-◌, Bool, true, false, cond, List, [], ◌∷◌, ◌++◌, length, map, take, set, get_or, refl, sym, ap, ◌∙◌, nat_lt, arith}
use Rattle.std.specs.Prelude.{◌&&◌, replicate, min, max}
use Rattle.std.specs.List.{AllByRecursion}
use Rattle.std.proofs.lemmas.Bool.Decides.{nat_tests}
use Rattle.std.proofs.lemmas.List.{map-append, map-set, length-map, take-map}
use Rattle.prodash_line.specs.declared.render.line.page.cell.Cell.{Cell}
use Rattle.prodash_line.specs.declared.render.line.page.cell.Cell.TheVariants.{Holds}
use Rattle.prodash_line.specs.declared.render.line.page.sign.Sign.{Sign}
use Rattle.prodash_line.specs.declared.render.line.page.sign.Sign.TheVariants.{Char, LineFeed, CarriageReturn, Up, EraseLine, EraseBelow, HideCursor, ShowCursor, NoWrap, Wrap, BeginUpdate, EndUpdate, Open, Reset}
use Rattle.prodash_line.specs.CellRows.{blank_cell, blank_cells, is_half, cell_at, blank_if_half, torn, write, put}
use Rattle.prodash_line.specs.Page.{Canvas, blank, next_row, put_char as put_in_cell, put_past, blank_row_from, with_blank_from, blank_below, after_sign, page_after}
use Rattle.prodash_line.specs.Terminals.{next_line, goes_on, put_in, put_char, blank_after, blank_rows_from, terminal_after_sign, terminal_after, in_cells, HasOneColumn}

abbrev cell : ℕ → Cell
cell c = Holds c []

abbrev cells : List ℕ → List Cell
cells row = map cell row

blank_is : (n : ℕ) → blank_cells n ≡ cells (blank n)
blank_is zero = refl
blank_is (suc n) = ap (λ (cs : List Cell). blank_cell ∷ cs) (blank_is n)

blank_rows : (n width : ℕ) → replicate n (blank_cells width) ≡ map cells (replicate n (blank width))
blank_rows zero width = refl
blank_rows (suc n) width = ap (λ (row : List Cell). row ∷ replicate n (blank_cells width)) (blank_is width) ∙ ap (λ (rows : List (List Cell)). cells (blank width) ∷ rows) (blank_rows n width)

row_is : (rows : List (List ℕ)) (k : ℕ) → get_or (map cells rows) k [] ≡ cells (get_or rows k [])
row_is [] k = refl
row_is (row ∷ rows) zero = refl
row_is (row ∷ rows) (suc k) = row_is rows k

-- no cell is a second half
no_half : (row : List ℕ) (k : ℕ) → is_half (cell_at (cells row) k) ≡ false
no_half [] k = refl
no_half (c ∷ row) zero = refl
no_half (c ∷ row) (suc k) = no_half row k

not_blanked : (row : List ℕ) (k n : ℕ) → blank_if_half k n (cells row) ≡ cells row
not_blanked row k n = ap (λ (b : Bool). cond b (set (cells row) n blank_cell) (cells row)) (no_half row k)

not_torn : (row : List ℕ) (k : ℕ) → torn k (cells row) ≡ cells row
not_torn row k = ap (λ (cs : List Cell). blank_if_half (k + 1) (k + 1) cs) (not_blanked row k (k - 1)) ∙ not_blanked row (k + 1) (k + 1)

written : (row : List ℕ) (k c : ℕ) → write k (cell c) (cells row) ≡ cells (set row k c)
written row k c = ap (λ (cs : List Cell). set cs k (cell c)) (not_torn row k) ∙ sym (map-set cell row k c)

-- a character of one column in the cursor's row
put_is : (c k : ℕ) (p : Canvas) → min p.column (p.columns - 1) ≡ k
    → (record (in_cells p) { rows = set (in_cells p).rows p.row (put 1 p.columns c (record { cells = get_or (in_cells p).rows p.row []; column = p.column })).cells; column = min p.column (p.columns - 1) + 1 })
    ≡ in_cells (put_in_cell c (record p { column = k }))
put_is c k p e =
    let rows = map cells p.rows in
    let row = get_or p.rows p.row [] in
    let one : write k (cell c) (get_or rows p.row []) ≡ cells (set row k c) = ap (λ (cs : List Cell). write k (cell c) cs) (row_is p.rows p.row) ∙ written row k c in
    ap (λ (n : ℕ). record { width = p.columns; height = p.height; rows = set rows p.row (write n (cell c) (get_or rows p.row [])); row = p.row; column = n + 1; wraps = p.wraps }) e
    ∙ ap (λ (rs : List (List Cell)). record { width = p.columns; height = p.height; rows = rs; row = p.row; column = k + 1; wraps = p.wraps })
    (ap (λ (cs : List Cell). set rows p.row cs) one ∙ sym (map-set cells p.rows p.row (set row k c)))

and_false : (b : Bool) → (b && false) ≡ false
and_false true = refl
and_false false = refl

-- the next row
with_row_is : (b : Bool) (width : ℕ) (rows : List (List ℕ)) → cond b (map cells rows) (map cells rows ++ blank_cells width ∷ []) ≡ map cells (cond b rows (rows ++ blank width ∷ []))
with_row_is true width rows = refl
with_row_is false width rows = ap (λ (row : List Cell). map cells rows ++ row ∷ []) (blank_is width) ∙ sym (map-append cells rows (blank width ∷ []))

next_is : (p : Canvas) → next_line (in_cells p) ≡ in_cells (next_row p)
next_is p =
    let rows = map cells p.rows in
    ap (λ (rs : List (List Cell)). record { width = p.columns; height = p.height; rows = rs; row = p.row + 1; column = 0; wraps = p.wraps })
    (ap (λ (n : ℕ). cond (nat_lt (p.row + 1) n) rows (rows ++ blank_cells p.columns ∷ [])) (length-map p.rows cells)
    ∙ with_row_is (nat_lt (p.row + 1) (length p.rows)) p.columns p.rows)

-- a character: it has room, or goes to the next row, or replaces the last cell
char_is : (room wraps : Bool) (c : ℕ) (p : Canvas) → nat_lt p.column p.columns ≡ room → p.wraps ≡ wraps
    → put_char 1 c (in_cells p) ≡ in_cells (cond room (put_in_cell c p) (put_past c p))
char_is true wraps c p room w =
    let stays : goes_on 1 (in_cells p) ≡ false = ap (λ (b : Bool). p.wraps && b) (let e : nat_lt p.columns (p.column + 1) ≡ false = grind (arith, nat_tests) in e) ∙ and_false p.wraps in
    ap (λ (b : Bool). put_in 1 c (cond b (next_line (in_cells p)) (in_cells p))) stays
    ∙ put_is c p.column p (grind (arith, nat_tests))
char_is false true c p room w =
    let goes : goes_on 1 (in_cells p) ≡ true = ap (λ (b : Bool). b && nat_lt p.columns (p.column + 1)) w ∙ (let e : nat_lt p.columns (p.column + 1) ≡ true = grind (arith, nat_tests) in e) in
    ap (λ (b : Bool). put_in 1 c (cond b (next_line (in_cells p)) (in_cells p))) goes
    ∙ ap (put_in 1 c) (next_is p)
    ∙ put_is c 0 (next_row p) (let e : min 0 (p.columns - 1) ≡ 0 = omega arith in e)
    ∙ ap (λ (b : Bool). in_cells (put_in_cell c (cond b (next_row p) (record p { column = p.columns - 1 })))) (sym w)
char_is false false c p room w =
    let stays : goes_on 1 (in_cells p) ≡ false = ap (λ (b : Bool). b && nat_lt p.columns (p.column + 1)) w in
    ap (λ (b : Bool). put_in 1 c (cond b (next_line (in_cells p)) (in_cells p))) stays
    ∙ put_is c (p.columns - 1) p (grind (arith, nat_tests))
    ∙ ap (λ (b : Bool). in_cells (put_in_cell c (cond b (next_row p) (record p { column = p.columns - 1 })))) (sym w)

-- what is blank behind the cursor, and below its row
blank_after_is : (width column : ℕ) (row : List ℕ) → blank_after width column (cells row) ≡ cells (blank_row_from width column row)
blank_after_is width column row =
    ap (λ (cs : List Cell). take column cs ++ blank_cells (width - column)) (not_torn row column)
    ∙ ap (λ (cs : List Cell). cs ++ blank_cells (width - column)) (take-map cell column row)
    ∙ ap (λ (cs : List Cell). cells (take column row) ++ cs) (blank_is (width - column))
    ∙ sym (map-append cell (take column row) (blank (width - column)))

blank_below_is : (width n : ℕ) (rows : List (List ℕ)) → blank_rows_from width n (map cells rows) ≡ map cells (blank_below width n rows)
blank_below_is width n rows =
    ap (λ (rs : List (List Cell)). rs ++ replicate (length (map cells rows) - n) (blank_cells width)) (take-map cells n rows)
    ∙ ap (λ (m : ℕ). map cells (take n rows) ++ replicate (m - n) (blank_cells width)) (length-map rows cells)
    ∙ ap (λ (rs : List (List Cell)). map cells (take n rows) ++ rs) (blank_rows (length rows - n) width)
    ∙ sym (map-append cells (take n rows) (replicate (length rows - n) (blank width)))

sign_is : (columns : ℕ → ℕ) (s : Sign) (p : Canvas) → HasOneColumn columns s → terminal_after_sign columns s (in_cells p) ≡ in_cells (after_sign s p)
sign_is columns (Char c) p h = ap (λ (n : ℕ). put_char n c (in_cells p)) h ∙ char_is (nat_lt p.column p.columns) p.wraps c p refl refl
sign_is columns LineFeed p h = next_is p
sign_is columns CarriageReturn p h = refl
sign_is columns (Up n) p h =
    ap (λ (m : ℕ). record { width = p.columns; height = p.height; rows = map cells p.rows; row = max (m - p.height) (p.row - n); column = p.column; wraps = p.wraps }) (length-map p.rows cells)
sign_is columns EraseLine p h =
    ap (λ (rs : List (List Cell)). record { width = p.columns; height = p.height; rows = rs; row = p.row; column = p.column; wraps = p.wraps })
    (ap (λ (row : List Cell). set (map cells p.rows) p.row row) (blank_is p.columns) ∙ sym (map-set cells p.rows p.row (blank p.columns)))
sign_is columns EraseBelow p h =
    let row = get_or p.rows p.row [] in
    ap (λ (rs : List (List Cell)). record { width = p.columns; height = p.height; rows = rs; row = p.row; column = p.column; wraps = p.wraps })
    (ap (λ (cs : List Cell). blank_rows_from p.columns (p.row + 1) (set (map cells p.rows) p.row (blank_after p.columns p.column cs))) (row_is p.rows p.row)
    ∙ ap (λ (cs : List Cell). blank_rows_from p.columns (p.row + 1) (set (map cells p.rows) p.row cs)) (blank_after_is p.columns p.column row)
    ∙ ap (blank_rows_from p.columns (p.row + 1)) (sym (map-set cells p.rows p.row (blank_row_from p.columns p.column row)))
    ∙ blank_below_is p.columns (p.row + 1) (with_blank_from p.columns p.row p.column p.rows))
sign_is columns HideCursor p h = refl
sign_is columns ShowCursor p h = refl
sign_is columns NoWrap p h = refl
sign_is columns Wrap p h = refl
sign_is columns BeginUpdate p h = refl
sign_is columns EndUpdate p h = refl
sign_is columns (Open style) p h = refl
sign_is columns Reset p h = refl

pub plain_page : (columns : ℕ → ℕ) (ss : List Sign) (p : Canvas) → AllByRecursion (HasOneColumn columns) ss → terminal_after columns ss (in_cells p) ≡ in_cells (page_after ss p)
plain_page columns [] p h = refl
plain_page columns (s ∷ ss) p h = ap (terminal_after columns ss) (sign_is columns s p h.0) ∙ plain_page columns ss (after_sign s p) h.1
