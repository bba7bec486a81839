-- A text that has room shows whole.
use Rattle.std.proofs.Common.{◌≡◌, ℕ, zero, suc, ◌+◌, ◌-◌, ◌≤◌, Bool, true, false, cond, nat_lt, List, [], ◌∷◌, ◌++◌, length, set, get_or, refl, sym, ap, ◌∙◌, append_assoc, length-append, arith}
use Rattle.std.specs.Prelude.{min}
use Rattle.std.proofs.lemmas.Bool.{le-ltb}
use Rattle.std.proofs.lemmas.List.{append-nil, get_or_at, set_at, get_or-drop, drop_at, length_push}
use Rattle.prodash_line.specs.CellRows.{CellRow, blank_cell, blank_cells, blank_row, is_half, blank_if_half, write, join, joined_by, put, typed, played, wrapped, wrapped_from, text_columns, joined_with, joined, cells_with, shown}
use Rattle.prodash_line.specs.declared.render.line.page.cell.Cell.{Cell}
use Rattle.prodash_line.specs.declared.render.line.page.cell.Cell.TheVariants.{Holds, Half}

-- these cells, then blank ones, with the cursor between them
abbrev filled : List Cell → ℕ → CellRow
filled cells m = record { cells = cells ++ blank_cells m; column = length cells }

get_or-blanks : (m i : ℕ) → get_or (blank_cells m) i blank_cell ≡ blank_cell
get_or-blanks zero zero = refl
get_or-blanks zero (suc i) = refl
get_or-blanks (suc m) zero = refl
get_or-blanks (suc m) (suc i) = get_or-blanks m i

blank_at : (a : List Cell) (m i : ℕ) → get_or (a ++ blank_cells m) (length a + i) blank_cell ≡ blank_cell
blank_at a m i = sym (get_or-drop (length a) (a ++ blank_cells m) i blank_cell) ∙ ap (λ (cells : List Cell). get_or cells i blank_cell) (drop_at a (blank_cells m) (length a) refl) ∙ get_or-blanks m i

-- a cell over a blank one before blank ones
write_at : (a : List Cell) (m : ℕ) (cell : Cell) → write (length a) cell (a ++ blank_cells (suc m)) ≡ a ++ cell ∷ blank_cells m
write_at a m cell =
    let cells = a ++ blank_cells (suc m) in
    ap (λ (cs : List Cell). set (blank_if_half (length a + 1) (length a + 1) cs) (length a) cell)
    (ap (λ (x : Cell). cond (is_half x) (set cells (length a - 1) blank_cell) cells) (get_or_at a blank_cell (blank_cells m) blank_cell (length a) refl))
    ∙ ap (λ (x : Cell). set (cond (is_half x) (set cells (length a + 1) blank_cell) cells) (length a) cell) (blank_at a (suc m) 1)
    ∙ set_at a blank_cell (blank_cells m) cell (length a) refl

-- a character of one column
put_one : (width c : ℕ) (a : List Cell) (m : ℕ) → length a + suc m ≡ width → put (suc zero) width c (filled a (suc m)) ≡ filled (a ++ Holds c [] ∷ []) m
put_one width c a m e =
    ap (λ (k : ℕ). let r : CellRow = record { cells = write k (Holds c []) (a ++ blank_cells (suc m)); column = k + 1 } in r) (let f : min (length a) (width - 1) ≡ length a = omega arith in f)
    ∙ ap (λ (cells : List Cell). let r : CellRow = record { cells = cells; column = length a + 1 } in r) (write_at a m (Holds c []) ∙ sym (append_assoc a (Holds c [] ∷ []) (blank_cells m)))
    ∙ ap (λ (k : ℕ). let r : CellRow = record { cells = (a ++ Holds c [] ∷ []) ++ blank_cells m; column = k } in r) (sym (length_push a (Holds c [])))

-- a wide character
put_wide : (width c n : ℕ) (a : List Cell) (m : ℕ) → length a + suc (suc m) ≡ width → put (suc (suc n)) width c (filled a (suc (suc m))) ≡ filled (a ++ Holds c [] ∷ Half ∷ []) m
put_wide width c n a m e =
    let first = a ++ Holds c [] ∷ [] in
    let size : length (a ++ Holds c [] ∷ Half ∷ []) ≡ length a + length (Holds c [] ∷ Half ∷ []) = length-append a (Holds c [] ∷ Half ∷ []) in
    ap (λ (b : Bool). cond b
    (record { cells = write (width - 1) blank_cell (a ++ blank_cells (suc (suc m))); column = width })
    (record { cells = write (length a + 1) Half (write (length a) (Holds c []) (a ++ blank_cells (suc (suc m)))); column = length a + 2 }))
    (le-ltb width (length a + 2) (omega arith))
    ∙ ap (λ (cells : List Cell). let r : CellRow = record { cells = write (length a + 1) Half cells; column = length a + 2 } in r)
    (write_at a (suc m) (Holds c []) ∙ sym (append_assoc a (Holds c [] ∷ []) (blank_cells (suc m))))
    ∙ ap (λ (k : ℕ). let r : CellRow = record { cells = write k Half (first ++ blank_cells (suc m)); column = length a + 2 } in r) (sym (length_push a (Holds c [])))
    ∙ ap (λ (cells : List Cell). let r : CellRow = record { cells = cells; column = length a + 2 } in r)
    (write_at first m Half ∙ append_assoc a (Holds c [] ∷ []) (Half ∷ blank_cells m) ∙ sym (append_assoc a (Holds c [] ∷ Half ∷ []) (blank_cells m)))
    ∙ ap (λ (k : ℕ). let r : CellRow = record { cells = (a ++ Holds c [] ∷ Half ∷ []) ++ blank_cells m; column = k } in r) (let f : length a + 2 ≡ length (a ++ Holds c [] ∷ Half ∷ []) = omega arith in f)

-- the second half of a character, if it is wide
abbrev half : Bool → List Cell
half false = []
half true = Half ∷ []

-- a character that joins
join_at : (c : ℕ) (a : List Cell) (b : ℕ) (js : List ℕ) (w : Bool) (rest : List Cell)
    → join c (a ++ (Holds b js ∷ (half w ++ rest))) (suc (length a + length (half w))) ≡ a ++ Holds b (js ++ c ∷ []) ∷ (half w ++ rest)
join_at c a b js false rest =
    let cells = a ++ Holds b js ∷ rest in
    let e : length a + 0 ≡ length a = omega arith in
    let is : get_or cells (length a) blank_cell ≡ Holds b js = get_or_at a (Holds b js) rest blank_cell (length a) refl in
    ap (λ (k : ℕ). join c cells (suc k)) e
    ∙ ap (λ (x : Cell). let n = cond (is_half x) (length a - 1) (length a) in set cells n (joined_by c (get_or cells n blank_cell))) is
    ∙ ap (λ (x : Cell). set cells (length a) (joined_by c x)) is
    ∙ set_at a (Holds b js) rest (Holds b (js ++ c ∷ [])) (length a) refl
join_at c a b js true rest =
    let cells = a ++ Holds b js ∷ Half ∷ rest in
    let k = length a + 1 in
    let is : get_or cells (length a) blank_cell ≡ Holds b js = get_or_at a (Holds b js) (Half ∷ rest) blank_cell (length a) refl in
    let half_is : get_or cells k blank_cell ≡ Half =
    ap (λ (cs : List Cell). get_or cs k blank_cell) (sym (append_assoc a (Holds b js ∷ []) (Half ∷ rest))) ∙ get_or_at (a ++ Holds b js ∷ []) Half rest blank_cell k (length_push a (Holds b js)) in
    ap (λ (x : Cell). let n = cond (is_half x) (k - 1) k in set cells n (joined_by c (get_or cells n blank_cell))) half_is
    ∙ ap (λ (n : ℕ). set cells n (joined_by c (get_or cells n blank_cell))) (let e : k - 1 ≡ length a = omega arith in e)
    ∙ ap (λ (x : Cell). set cells (length a) (joined_by c x)) is
    ∙ set_at a (Holds b js) (Half ∷ rest) (Holds b (js ++ c ∷ [])) (length a) refl

put_none : (width c : ℕ) (a : List Cell) (b : ℕ) (js : List ℕ) (w : Bool) (m : ℕ)
    → put zero width c (filled (a ++ Holds b js ∷ half w) m) ≡ filled (a ++ Holds b (js ++ c ∷ []) ∷ half w) m
put_none width c a b js w m =
    let before = a ++ Holds b js ∷ half w in
    let after = a ++ Holds b (js ++ c ∷ []) ∷ half w in
    let size : length before ≡ length a + length (Holds b js ∷ half w) = length-append a (Holds b js ∷ half w) in
    let size' : length after ≡ length a + length (Holds b (js ++ c ∷ []) ∷ half w) = length-append a (Holds b (js ++ c ∷ []) ∷ half w) in
    ap (λ (cells : List Cell). let r : CellRow = record { cells = cells; column = length before } in r)
    (ap (join c (before ++ blank_cells m)) (let e : length before ≡ suc (length a + length (half w)) = omega arith in e)
    ∙ ap (λ (cells : List Cell). join c cells (suc (length a + length (half w)))) (append_assoc a (Holds b js ∷ half w) (blank_cells m))
    ∙ join_at c a b js w (blank_cells m)
    ∙ sym (append_assoc a (Holds b (js ++ c ∷ []) ∷ half w) (blank_cells m)))
    ∙ ap (λ (k : ℕ). let r : CellRow = record { cells = after ++ blank_cells m; column = k } in r) (let e : length before ≡ length after = omega arith in e)

-- what a text adds behind a character
abbrev Follows : (ℕ → ℕ) → ℕ → List ℕ → Type 0
Follows columns width text = (a : List Cell) (b : ℕ) (js : List ℕ) (w : Bool) (m : ℕ) → text_columns columns text ≤ m → length (a ++ Holds b js ∷ half w) + m ≡ width
    → (typed columns width text (filled (a ++ Holds b js ∷ half w) m)).cells
    ≡ (a ++ Holds b (js ++ joined columns text) ∷ half w) ++ (shown columns text ++ blank_cells (m - text_columns columns text))

-- one column, behind any cells
after_one : (columns : ℕ → ℕ) (width c : ℕ) (text : List ℕ) (a : List Cell) (m : ℕ) → Follows columns width text → 1 + text_columns columns text ≤ m → length a + m ≡ width
    → (typed columns width text (put (suc zero) width c (filled a m))).cells ≡ a ++ ((Holds c (joined columns text) ∷ shown columns text) ++ blank_cells (m - (1 + text_columns columns text)))
after_one columns width c text a zero follows fits e = absurd (omega arith)
after_one columns width c text a (suc m) follows fits e =
    ap (λ (r : CellRow). (typed columns width text r).cells) (put_one width c a m e)
    ∙ follows a c [] false m (omega arith) (omega (arith, length_push a (Holds c [])))
    ∙ append_assoc a (Holds c (joined columns text) ∷ []) (shown columns text ++ blank_cells (m - text_columns columns text))
    ∙ ap (λ (k : ℕ). a ++ ((Holds c (joined columns text) ∷ shown columns text) ++ blank_cells k)) (let f : m - text_columns columns text ≡ suc m - (1 + text_columns columns text) = omega arith in f)

-- two columns
after_wide : (columns : ℕ → ℕ) (width c n : ℕ) (text : List ℕ) (a : List Cell) (m : ℕ) → Follows columns width text → 2 + text_columns columns text ≤ m → length a + m ≡ width
    → (typed columns width text (put (suc (suc n)) width c (filled a m))).cells ≡ a ++ ((Holds c (joined columns text) ∷ Half ∷ shown columns text) ++ blank_cells (m - (2 + text_columns columns text)))
after_wide columns width c n text a zero follows fits e = absurd (omega arith)
after_wide columns width c n text a (suc zero) follows fits e = absurd (omega arith)
after_wide columns width c n text a (suc (suc m)) follows fits e =
    let size : length (a ++ Holds c [] ∷ Half ∷ []) ≡ length a + length (Holds c [] ∷ Half ∷ []) = length-append a (Holds c [] ∷ Half ∷ []) in
    ap (λ (r : CellRow). (typed columns width text r).cells) (put_wide width c n a m e)
    ∙ follows a c [] true m (omega arith) (omega arith)
    ∙ append_assoc a (Holds c (joined columns text) ∷ Half ∷ []) (shown columns text ++ blank_cells (m - text_columns columns text))
    ∙ ap (λ (k : ℕ). a ++ ((Holds c (joined columns text) ∷ Half ∷ shown columns text) ++ blank_cells k)) (let f : m - text_columns columns text ≡ suc (suc m) - (2 + text_columns columns text) = omega arith in f)

follow_by : (columns : ℕ → ℕ) (width n c : ℕ) (text : List ℕ) → Follows columns width text → (a : List Cell) (b : ℕ) (js : List ℕ) (w : Bool) (m : ℕ)
    → min n 2 + text_columns columns text ≤ m → length (a ++ Holds b js ∷ half w) + m ≡ width
    → (typed columns width text (put n width c (filled (a ++ Holds b js ∷ half w) m))).cells
    ≡ (a ++ Holds b (js ++ joined_with n c (joined columns text)) ∷ half w) ++ (cells_with n c (joined columns text) (shown columns text) ++ blank_cells (m - (min n 2 + text_columns columns text)))
follow_by columns width zero c text follows a b js w m fits e =
    let size : length (a ++ Holds b js ∷ half w) ≡ length a + length (Holds b js ∷ half w) = length-append a (Holds b js ∷ half w) in
    let size' : length (a ++ Holds b (js ++ c ∷ []) ∷ half w) ≡ length a + length (Holds b (js ++ c ∷ []) ∷ half w) = length-append a (Holds b (js ++ c ∷ []) ∷ half w) in
    ap (λ (r : CellRow). (typed columns width text r).cells) (put_none width c a b js w m)
    ∙ follows a b (js ++ c ∷ []) w m (omega arith) (omega arith)
    ∙ ap (λ (ks : List ℕ). (a ++ Holds b ks ∷ half w) ++ (shown columns text ++ blank_cells (m - text_columns columns text))) (append_assoc js (c ∷ []) (joined columns text))
    ∙ ap (λ (k : ℕ). (a ++ Holds b (js ++ c ∷ joined columns text) ∷ half w) ++ (shown columns text ++ blank_cells k)) (let f : m - text_columns columns text ≡ m - (min 0 2 + text_columns columns text) = omega arith in f)
follow_by columns width (suc zero) c text follows a b js w m fits e =
    after_one columns width c text (a ++ Holds b js ∷ half w) m follows (omega arith) e
    ∙ ap (λ (ks : List ℕ). (a ++ Holds b ks ∷ half w) ++ ((Holds c (joined columns text) ∷ shown columns text) ++ blank_cells (m - (1 + text_columns columns text)))) (sym (append-nil js))
follow_by columns width (suc (suc n)) c text follows a b js w m fits e =
    after_wide columns width c n text (a ++ Holds b js ∷ half w) m follows (omega arith) e
    ∙ ap (λ (ks : List ℕ). (a ++ Holds b ks ∷ half w) ++ ((Holds c (joined columns text) ∷ Half ∷ shown columns text) ++ blank_cells (m - (2 + text_columns columns text)))) (sym (append-nil js))
    ∙ ap (λ (k : ℕ). (a ++ Holds b (js ++ []) ∷ half w) ++ ((Holds c (joined columns text) ∷ Half ∷ shown columns text) ++ blank_cells k)) (let f : m - (2 + text_columns columns text) ≡ m - (min (suc (suc n)) 2 + text_columns columns text) = omega arith in f)

follow : (columns : ℕ → ℕ) (width : ℕ) (text : List ℕ) → Follows columns width text
follow columns width [] a b js w m fits e =
    ap (λ (ks : List ℕ). (a ++ Holds b ks ∷ half w) ++ blank_cells m) (sym (append-nil js))
    ∙ ap (λ (k : ℕ). (a ++ Holds b (js ++ []) ∷ half w) ++ blank_cells k) (let f : m ≡ m - 0 = omega arith in f)
follow columns width (c ∷ text) a b js w m fits e = follow_by columns width (columns c) c text (follow columns width text) a b js w m fits e

-- a text in a blank row
abbrev Shows : (ℕ → ℕ) → ℕ → List ℕ → Type 0
Shows columns width text = text_columns columns text ≤ width → played columns width text ≡ shown columns text ++ blank_cells (width - text_columns columns text)

show_by : (columns : ℕ → ℕ) (width n c : ℕ) (text : List ℕ) → Shows columns width text → min n 2 + text_columns columns text ≤ width
    → (typed columns width text (put n width c (filled [] width))).cells ≡ cells_with n c (joined columns text) (shown columns text) ++ blank_cells (width - (min n 2 + text_columns columns text))
show_by columns width zero c text shows fits =
    shows (omega arith) ∙ ap (λ (k : ℕ). shown columns text ++ blank_cells k) (let f : width - text_columns columns text ≡ width - (min 0 2 + text_columns columns text) = omega arith in f)
show_by columns width (suc zero) c text shows fits = after_one columns width c text [] width (follow columns width text) (omega arith) (omega arith)
show_by columns width (suc (suc n)) c text shows fits =
    after_wide columns width c n text [] width (follow columns width text) (omega arith) (omega arith)
    ∙ ap (λ (k : ℕ). (Holds c (joined columns text) ∷ Half ∷ shown columns text) ++ blank_cells k) (let f : width - (2 + text_columns columns text) ≡ width - (min (suc (suc n)) 2 + text_columns columns text) = omega arith in f)

pub shows_whole : (columns : ℕ → ℕ) (width : ℕ) (text : List ℕ) → Shows columns width text
shows_whole columns width [] fits = ap blank_cells (let f : width ≡ width - 0 = omega arith in f)
shows_whole columns width (c ∷ text) fits = show_by columns width (columns c) c text (shows_whole columns width text) fits

-- ---- texts whose characters wrap, but have room in one row

column_of : (b : Bool) (x y : CellRow) → b ≡ false → (cond b x y).column ≡ y.column
column_of true x y e = cc
column_of false x y e = refl

-- a character that has room takes its columns
put_moves : (n width c : ℕ) (row : CellRow) → row.column + min n 2 ≤ width → (put n width c row).column ≡ row.column + min n 2
put_moves zero width c row fits = omega arith
put_moves (suc zero) width c row fits = omega arith
put_moves (suc (suc n)) width c row fits =
    column_of (nat_lt width (row.column + 2)) _ _ (le-ltb width (row.column + 2) (omega arith))
    ∙ (let f : row.column + 2 ≡ row.column + min (suc (suc n)) 2 = omega arith in f)

in_one_row : (columns : ℕ → ℕ) (width : ℕ) (text : List ℕ) (row : CellRow) → row.column + text_columns columns text ≤ width
    → wrapped_from columns width text row ≡ (typed columns width text row).cells ∷ []
in_one_row columns width [] row fits = refl
in_one_row columns width (c ∷ text) row fits =
    let moves : (put (columns c) width c row).column ≡ row.column + min (columns c) 2 = put_moves (columns c) width c row (omega arith) in
    ap (λ (b : Bool). cond b (row.cells ∷ wrapped_from columns width text (put (columns c) width c (blank_row width))) (wrapped_from columns width text (put (columns c) width c row)))
    (le-ltb width (row.column + min (columns c) 2) (omega arith))
    ∙ in_one_row columns width text (put (columns c) width c row) (omega arith)

pub shows_in_one_row : (columns : ℕ → ℕ) (width : ℕ) (text : List ℕ) → text_columns columns text ≤ width
    → wrapped columns width text ≡ (shown columns text ++ blank_cells (width - text_columns columns text)) ∷ []
shows_in_one_row columns width text fits =
    in_one_row columns width text (blank_row width) (omega arith)
    ∙ ap (λ (cells : List Cell). cells ∷ []) (shows_whole columns width text fits)
