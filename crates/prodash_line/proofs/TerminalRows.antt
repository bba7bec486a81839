-- Signs on the page of a terminal that change the cursor's row, and those that move the cursor to another one.
use Rattle.std.proofs.Common.{◌≡◌, ℕ, zero, suc, ◌+◌, ◌-◌, ◌^◌, ◌<◌, ◌≤◌, Bool, false, cond, List, [], ◌∷◌, ◌++◌, Option, Some, None, length, set, drop, map, refl, sym, ap, ◌∙◌, append_assoc, length-append, arith}
use Rattle.std.specs.Prelude.{replicate, min, max}
use Rattle.std.proofs.lemmas.Bool.{lt-ltb, le-ltb}
use Rattle.std.proofs.lemmas.List.{get_or_at, set_at, length_push, append-nil}
use Rattle.std.proofs.Math.Seq.{take-append-add}
use Rattle.prodash_line.specs.declared.render.line.page.sign.Sign.{Sign}
use Rattle.prodash_line.specs.declared.render.line.page.sign.Sign.TheVariants.{Char, LineFeed, EraseLine, EraseBelow, Reset}
use Rattle.prodash_line.specs.declared.render.line.page.style.Style.{Style}
use Rattle.prodash_line.specs.Lines.{Line, columns_of, line_text}
use Rattle.prodash_line.specs.Frames.{styled_signs, piece_signs, line_signs, overwrite_line, cursor_up}
use Rattle.prodash_line.specs.CellRows.{CellRow, blank_cells, blank_row, put, typed}
use Rattle.prodash_line.specs.declared.render.line.page.cell.Cell.{Cell}
use Rattle.prodash_line.specs.Terminals.{Terminal, with_cells, next_line, put_in, blank_rows_below, terminal_after_sign, terminal_after}
use Rattle.prodash_line.specs.ErasedPages.{line_row}

-- a page by the rows above the cursor's and the others, with the cursor at column 0
abbrev pub at : ℕ → ℕ → Bool → List (List Cell) → List (List Cell) → Terminal
at width height wraps above below = record { width = width; height = height; rows = above ++ below; row = length above; column = 0; wraps = wraps }

-- a page by the rows above the cursor's, the cursor's and the others
abbrev pub on : ℕ → ℕ → Bool → List (List Cell) → CellRow → List (List Cell) → Terminal
on width height wraps above row below = record { width = width; height = height; rows = above ++ row.cells ∷ below; row = length above; column = row.column; wraps = wraps }

-- signs after others
pub terminal_after-append : (columns : ℕ → ℕ) (xs ys : List Sign) (p : Terminal) → terminal_after columns (xs ++ ys) p ≡ terminal_after columns ys (terminal_after columns xs p)
terminal_after-append columns [] ys p = refl
terminal_after-append columns (x ∷ xs) ys p = terminal_after-append columns xs ys (terminal_after_sign columns x p)

-- a character in the cursor's row
pub put_on : (width height : ℕ) (wraps : Bool) (above : List (List Cell)) (row : CellRow) (below : List (List Cell)) (n c : ℕ)
    → put_in n c (on width height wraps above row below) ≡ on width height wraps above (put n width c row) below
put_on width height wraps above row below n c =
    ap (λ (cells : List Cell). let row' = put n width c (record { cells = cells; column = row.column }) in
    record { width = width; height = height; rows = set (above ++ row.cells ∷ below) (length above) row'.cells; row = length above; column = row'.column; wraps = wraps })
    (get_or_at above row.cells below [] (length above) refl)
    ∙ ap (λ (rows : List (List Cell)). record { width = width; height = height; rows = rows; row = length above; column = (put n width c row).column; wraps = wraps })
    (set_at above row.cells below (put n width c row).cells (length above) refl)

-- a text without wrapping
pub text_on : (columns : ℕ → ℕ) (width height : ℕ) (above : List (List Cell)) (row : CellRow) (below : List (List Cell)) (text : List ℕ)
    → terminal_after columns (map Char text) (on width height false above row below) ≡ on width height false above (typed columns width text row) below
text_on columns width height above row below [] = refl
text_on columns width height above row below (c ∷ text) =
    ap (terminal_after columns (map Char text)) (put_on width height false above row below (columns c) c)
    ∙ text_on columns width height above (put (columns c) width c row) below text

-- the cursor's row erased
pub erase_at : (columns : ℕ → ℕ) (width height : ℕ) (wraps : Bool) (above : List (List Cell)) (row : List Cell) (below : List (List Cell))
    → terminal_after_sign columns EraseLine (at width height wraps above (row ∷ below)) ≡ at width height wraps above (blank_cells width ∷ below)
erase_at columns width height wraps above row below =
    ap (λ (rows : List (List Cell)). record { width = width; height = height; rows = rows; row = length above; column = 0; wraps = wraps }) (set_at above row below (blank_cells width) (length above) refl)

-- the rows, or a blank one if there is none
abbrev pub below_or : ℕ → List (List Cell) → List (List Cell)
below_or width [] = blank_cells width ∷ []
below_or width (row ∷ rows) = row ∷ rows

-- the rows with one below the cursor's
with_cells-below : (width : ℕ) (above : List (List Cell)) (row : List Cell) (below : List (List Cell))
    → with_cells width (length above + 1) (above ++ row ∷ below) ≡ (above ++ row ∷ []) ++ below_or width below
with_cells-below width above row [] =
    ap (λ (b : Bool). cond b (above ++ row ∷ []) ((above ++ row ∷ []) ++ blank_cells width ∷ [])) (le-ltb _ _ (omega (arith, length_push above row)))
with_cells-below width above row (next ∷ below) =
    ap (λ (b : Bool). cond b (above ++ row ∷ next ∷ below) ((above ++ row ∷ next ∷ below) ++ blank_cells width ∷ [])) (lt-ltb _ _ (omega (arith, length-append above (row ∷ next ∷ below))))
    ∙ sym (append_assoc above (row ∷ []) (next ∷ below))

-- the next row
pub next_on : (width height : ℕ) (wraps : Bool) (above : List (List Cell)) (row : CellRow) (below : List (List Cell))
    → next_line (on width height wraps above row below) ≡ at width height wraps (above ++ row.cells ∷ []) (below_or width below)
next_on width height wraps above row below =
    ap (λ (rows : List (List Cell)). record { width = width; height = height; rows = rows; row = length above + 1; column = 0; wraps = wraps }) (with_cells-below width above row.cells below)
    ∙ ap (λ (n : ℕ). record { width = width; height = height; rows = (above ++ row.cells ∷ []) ++ below_or width below; row = n; column = 0; wraps = wraps }) (sym (length_push above row.cells))

-- ---- lines

-- characters after others
typed-append : (columns : ℕ → ℕ) (width : ℕ) (xs ys : List ℕ) (row : CellRow) → typed columns width (xs ++ ys) row ≡ typed columns width ys (typed columns width xs row)
typed-append columns width [] ys row = refl
typed-append columns width (x ∷ xs) ys row = typed-append columns width xs ys (put (columns x) width x row)

-- a text in a style
styled_on : (columns : ℕ → ℕ) (width height : ℕ) (above : List (List Cell)) (row : CellRow) (below : List (List Cell)) (style : Option Style) (text : List ℕ)
    → terminal_after columns (styled_signs style text) (on width height false above row below) ≡ on width height false above (typed columns width text row) below
styled_on columns width height above row below None text = text_on columns width height above row below text
styled_on columns width height above row below (Some style) [] = refl
styled_on columns width height above row below (Some style) (c ∷ text) =
    terminal_after-append columns (map Char (c ∷ text)) (Reset ∷ []) (on width height false above row below)
    ∙ text_on columns width height above row below (c ∷ text)

-- the pieces of a line
line_on : (columns : ℕ → ℕ) (width height : ℕ) (above : List (List Cell)) (row : CellRow) (below : List (List Cell)) (line : Line)
    → terminal_after columns (line_signs line) (on width height false above row below) ≡ on width height false above (typed columns width (line_text line) row) below
line_on columns width height above row below [] = refl
line_on columns width height above row below (p ∷ ps) =
    terminal_after-append columns (piece_signs p) (line_signs ps) (on width height false above row below)
    ∙ ap (terminal_after columns (line_signs ps)) (styled_on columns width height above row below p.style p.text)
    ∙ line_on columns width height above (typed columns width p.text row) below ps
    ∙ ap (λ (r : CellRow). on width height false above r below) (sym (typed-append columns width p.text (line_text ps) row))

-- a line in a row that is erased first
pub erased_line_at : (columns : ℕ → ℕ) (width height : ℕ) (above : List (List Cell)) (row : List Cell) (below : List (List Cell)) (line : Line)
    → terminal_after columns (EraseLine ∷ overwrite_line 0 line) (at width height false above (row ∷ below))
    ≡ at width height false (above ++ line_row columns width line ∷ []) (below_or width below)
erased_line_at columns width height above row below line =
    ap (terminal_after columns (overwrite_line 0 line)) (erase_at columns width height false above row below)
    ∙ ap (λ (n : ℕ). terminal_after columns (line_signs line ++ (map Char (replicate n 32) ++ LineFeed ∷ [])) (at width height false above (blank_cells width ∷ below)))
    (let e : 0 - columns_of line ≡ 0 = omega arith in e)
    ∙ terminal_after-append columns (line_signs line) (LineFeed ∷ []) (at width height false above (blank_cells width ∷ below))
    ∙ ap (terminal_after_sign columns LineFeed) (line_on columns width height above (blank_row width) below line)
    ∙ next_on width height false above (typed columns width (line_text line) (blank_row width)) below

-- ---- several rows

-- the rows from the cursor's on after k line feeds
abbrev pub rows_after : ℕ → ℕ → List (List Cell) → List (List Cell)
rows_after width zero below = below
rows_after width (suc k) below = rows_after width k (below_or width (drop 1 below))

-- how many those are: at least one
pub length-rows_after : (width k : ℕ) (below : List (List Cell)) → 0 < length below → length (rows_after width k below) ≡ max 1 (length below - k)
length-rows_after width zero below h = omega arith
length-rows_after width (suc k) [] h = absurd (omega arith)
length-rows_after width (suc k) (row ∷ []) h = let e = length-rows_after width k (blank_cells width ∷ []) (omega arith) in omega arith
length-rows_after width (suc k) (row ∷ next ∷ below) h = let e = length-rows_after width k (next ∷ below) (omega arith) in omega arith

-- a row is there
pub some_is : (width : ℕ) (below : List (List Cell)) → 0 < length (below_or width below)
some_is width [] = omega arith
some_is width (row ∷ below) = omega arith

-- everything from the cursor's row on
pub below_at : (columns : ℕ → ℕ) (width height : ℕ) (wraps : Bool) (above below : List (List Cell)) → 0 < length below
    → terminal_after_sign columns EraseBelow (at width height wraps above below) ≡ at width height wraps above (replicate (length below) (blank_cells width))
below_at columns width height wraps above [] i = absurd (omega arith)
below_at columns width height wraps above (row ∷ below) i =
    let rows = above ++ blank_cells width ∷ below in
    let same : blank_cells (width - 0) ≡ blank_cells width = ap blank_cells (let e : width - 0 ≡ width = omega arith in e) in
    let size : length rows ≡ length above + length (blank_cells width ∷ below) = length-append above (blank_cells width ∷ below) in
    ap (λ (rs : List (List Cell)). blank_rows_below (record { width = width; height = height; rows = rs; row = length above; column = 0; wraps = wraps }))
    (set_at above row below _ (length above) refl ∙ ap (λ (r : List Cell). above ++ r ∷ below) same)
    ∙ ap (λ (rs : List (List Cell)). record { width = width; height = height; rows = rs; row = length above; column = 0; wraps = wraps })
    (ap (λ (rs : List (List Cell)). rs ++ replicate (length rows - (length above + 1)) (blank_cells width)) (take-append-add above (blank_cells width ∷ below) 1)
    ∙ ap (λ (n : ℕ). (above ++ blank_cells width ∷ []) ++ replicate n (blank_cells width)) (let e : length rows - (length above + 1) ≡ length below = omega arith in e)
    ∙ append_assoc above (blank_cells width ∷ []) (replicate (length below) (blank_cells width)))

-- up to the row in which the rows xs begin
pub cursor_up_at : (columns : ℕ → ℕ) (width height : ℕ) (wraps : Bool) (above xs below : List (List Cell)) → length xs + length below ≤ height → 0 < length below → height < 2 ^ 16
    → terminal_after columns (cursor_up (length xs)) (at width height wraps (above ++ xs) below) ≡ at width height wraps above (xs ++ below)
cursor_up_at columns width height wraps above [] below h i low = ap (λ (a : List (List Cell)). at width height wraps a below) (append-nil above)
cursor_up_at columns width height wraps above (x ∷ xs) below h i low =
    let rows : (above ++ x ∷ xs) ++ below ≡ above ++ ((x ∷ xs) ++ below) = append_assoc above (x ∷ xs) below in
    let size : length (above ++ ((x ∷ xs) ++ below)) ≡ length above + (length (x ∷ xs) + length below) = length-append above ((x ∷ xs) ++ below) ∙ ap (λ (n : ℕ). length above + n) (length-append (x ∷ xs) below) in
    let size_above : length (above ++ x ∷ xs) ≡ length above + length (x ∷ xs) = length-append above (x ∷ xs) in
    ap (λ (rs : List (List Cell)). record { width = width; height = height; rows = rs; row = max (length rs - height) (length (above ++ x ∷ xs) - min (length (x ∷ xs)) 65535); column = 0; wraps = wraps }) rows
    ∙ ap (λ (n : ℕ). record { width = width; height = height; rows = above ++ ((x ∷ xs) ++ below); row = n; column = 0; wraps = wraps })
    (let e : max (length (above ++ ((x ∷ xs) ++ below)) - height) (length (above ++ x ∷ xs) - min (length (x ∷ xs)) 65535) ≡ length above = omega arith in e)
