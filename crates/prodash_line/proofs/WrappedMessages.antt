-- Messages that go on in the next row, over blank rows, for any widths of characters.
use Rattle.std.proofs.Common.{◌≡◌, ℕ, zero, suc, ◌+◌, ◌-◌, ◌^◌, ◌<◌, ◌≤◌, nat_lt, Bool, true, false, cond, List, [], ◌∷◌, ◌++◌, Option, Some, None, length, map, refl, sym, ap, ◌∙◌, append_assoc, append-nil, length-append, arith}
use Rattle.std.specs.Prelude.{replicate, min, max}
use Rattle.std.proofs.lemmas.Bool.Decides.{nat_tests}
use Rattle.std.proofs.lemmas.List.{length-replicate, map-append, nil_from_length}
use Rattle.prodash_line.specs.declared.render.line.page.sign.Sign.{Sign}
use Rattle.prodash_line.specs.declared.render.line.page.sign.Sign.TheVariants.{Char, LineFeed, EraseLine, EraseBelow, Up, Reset}
use Rattle.prodash_line.specs.declared.render.line.page.style.Style.{Style}
use Rattle.prodash_line.specs.declared.render.line.draw.layout.Layout.TheVariants.{Overwriting}
use Rattle.prodash_line.specs.Lines.{Line, columns_of, line_text}
use Rattle.prodash_line.specs.Frames.{styled_signs, piece_signs, line_signs, overwrite_line, lines_over, blank_below}
use Rattle.prodash_line.specs.CellRows.{CellRow, blank_cells, blank_row, put, wrapped, wrapped_from}
use Rattle.prodash_line.specs.declared.render.line.page.cell.Cell.{Cell}
use Rattle.prodash_line.specs.Terminals.{Terminal, next_line, put_in, terminal_after_sign, terminal_after}
use Rattle.prodash_line.specs.ErasedPages.{message_rows}
use Rattle.prodash_line.proofs.TerminalRows.{at, on, terminal_after-append, put_on, erase_at, below_or, next_on, below_at, cursor_up_at}

-- ---- styles change nothing

styled_text : (columns : ℕ → ℕ) (style : Option Style) (text : List ℕ) (p : Terminal) → terminal_after columns (styled_signs style text) p ≡ terminal_after columns (map Char text) p
styled_text columns None text p = refl
styled_text columns (Some style) [] p = refl
styled_text columns (Some style) (c ∷ text) p = terminal_after-append columns (map Char (c ∷ text)) (Reset ∷ []) p

text_of_line : (columns : ℕ → ℕ) (line : Line) (p : Terminal) → terminal_after columns (line_signs line) p ≡ terminal_after columns (map Char (line_text line)) p
text_of_line columns [] p = refl
text_of_line columns (q ∷ qs) p =
    terminal_after-append columns (piece_signs q) (line_signs qs) p
    ∙ ap (terminal_after columns (line_signs qs)) (styled_text columns q.style q.text p)
    ∙ text_of_line columns qs (terminal_after columns (map Char q.text) p)
    ∙ sym (terminal_after-append columns (map Char q.text) (map Char (line_text qs)) p)
    ∙ ap (λ (signs : List Sign). terminal_after columns signs p) (sym (map-append Char q.text (line_text qs)))

-- ---- one text

-- the first of some blank rows, or a new one
blank_or : (width n : ℕ) → below_or width (replicate n (blank_cells width)) ≡ replicate (max 1 n) (blank_cells width)
blank_or width zero = refl
blank_or width (suc n) = ap (λ (k : ℕ). replicate k (blank_cells width)) (let e : suc n ≡ max 1 (suc n) = omega arith in e)

-- the same, the first apart
blank_first : (width n : ℕ) → below_or width (replicate n (blank_cells width)) ≡ blank_cells width ∷ replicate (n - 1) (blank_cells width)
blank_first width zero = refl
blank_first width (suc n) = ap (λ (k : ℕ). blank_cells width ∷ replicate k (blank_cells width)) (let e : n ≡ suc n - 1 = omega arith in e)

-- the next row, if it is blank
next_blank : (width height : ℕ) (above : List (List Cell)) (row : CellRow) (n : ℕ)
    → next_line (on width height true above row (replicate n (blank_cells width))) ≡ on width height true (above ++ row.cells ∷ []) (blank_row width) (replicate (n - 1) (blank_cells width))
next_blank width height above row n =
    next_on width height true above row (replicate n (blank_cells width))
    ∙ ap (at width height true (above ++ row.cells ∷ [])) (blank_first width n)

-- a text leaves at least one row
some_if : (b : Bool) (row : List Cell) (xs ys : List (List Cell)) → 0 < length ys → 0 < length (cond b (row ∷ xs) ys)
some_if true row xs ys i = omega arith
some_if false row xs ys i = i

some_from : (columns : ℕ → ℕ) (width : ℕ) (text : List ℕ) (row : CellRow) → 0 < length (wrapped_from columns width text row)
some_from columns width [] row = omega arith
some_from columns width (c ∷ text) row =
    some_if (nat_lt width (row.column + min (columns c) 2)) row.cells _ _ (some_from columns width text (put (columns c) width c row))

-- a page after a text and a line feed over n blank rows, if it leaves these rows
abbrev ended : ℕ → ℕ → List (List Cell) → List (List Cell) → ℕ → Terminal
ended width height above rows n = at width height true (above ++ rows) (replicate (max 1 ((n + 1) - length rows)) (blank_cells width))

-- what follows a character
abbrev Follows : (ℕ → ℕ) → ℕ → ℕ → List ℕ → Type 0
Follows columns width height text = (above : List (List Cell)) (row : CellRow) (n : ℕ)
    → terminal_after columns (map Char text ++ LineFeed ∷ []) (on width height true above row (replicate n (blank_cells width))) ≡ ended width height above (wrapped_from columns width text row) n

-- a character that goes on in the next row or doesn't
char_wraps : (columns : ℕ → ℕ) (width height : ℕ) (c : ℕ) (text : List ℕ) (b : Bool) → Follows columns width height text → (above : List (List Cell)) (row : CellRow) (n : ℕ)
    → let p = on width height true above row (replicate n (blank_cells width)) in
    terminal_after columns (map Char text ++ LineFeed ∷ []) (put_in (columns c) c (cond b (next_line p) p))
    ≡ ended width height above (cond b (row.cells ∷ wrapped_from columns width text (put (columns c) width c (blank_row width))) (wrapped_from columns width text (put (columns c) width c row))) n
char_wraps columns width height c text true follows above row n =
    let rows = wrapped_from columns width text (put (columns c) width c (blank_row width)) in
    let some : 0 < length rows = some_from columns width text (put (columns c) width c (blank_row width)) in
    ap (λ (p : Terminal). terminal_after columns (map Char text ++ LineFeed ∷ []) (put_in (columns c) c p)) (next_blank width height above row n)
    ∙ ap (terminal_after columns (map Char text ++ LineFeed ∷ [])) (put_on width height true (above ++ row.cells ∷ []) (blank_row width) (replicate (n - 1) (blank_cells width)) (columns c) c)
    ∙ follows (above ++ row.cells ∷ []) (put (columns c) width c (blank_row width)) (n - 1)
    ∙ ap (λ (k : ℕ). at width height true ((above ++ row.cells ∷ []) ++ rows) (replicate k (blank_cells width)))
    (let e : max 1 (((n - 1) + 1) - length rows) ≡ max 1 ((n + 1) - (length (row.cells ∷ rows))) = omega arith in e)
    ∙ ap (λ (a : List (List Cell)). at width height true a (replicate (max 1 ((n + 1) - length (row.cells ∷ rows))) (blank_cells width))) (append_assoc above (row.cells ∷ []) rows)
char_wraps columns width height c text false follows above row n =
    ap (terminal_after columns (map Char text ++ LineFeed ∷ [])) (put_on width height true above row (replicate n (blank_cells width)) (columns c) c)
    ∙ follows above (put (columns c) width c row) n

text_wraps : (columns : ℕ → ℕ) (width height : ℕ) (text : List ℕ) → Follows columns width height text
text_wraps columns width height [] above row n =
    next_on width height true above row (replicate n (blank_cells width))
    ∙ ap (at width height true (above ++ row.cells ∷ [])) (blank_or width n ∙ ap (λ (k : ℕ). replicate k (blank_cells width)) (let e : max 1 n ≡ max 1 ((n + 1) - 1) = omega arith in e))
text_wraps columns width height (c ∷ text) above row n =
    char_wraps columns width height c text (nat_lt width (row.column + min (columns c) 2)) (text_wraps columns width height text) above row n

-- ---- lines

-- a line in the first of n + 1 blank rows
line_wraps : (columns : ℕ → ℕ) (width height : ℕ) (above : List (List Cell)) (n : ℕ) (line : Line)
    → terminal_after columns (overwrite_line 0 line) (at width height true above (replicate (suc n) (blank_cells width))) ≡ ended width height above (wrapped columns width (line_text line)) n
line_wraps columns width height above n line =
    let p : Terminal = on width height true above (blank_row width) (replicate n (blank_cells width)) in
    ap (λ (k : ℕ). terminal_after columns (line_signs line ++ (map Char (replicate k 32) ++ LineFeed ∷ [])) p) (let e : 0 - columns_of line ≡ 0 = omega arith in e)
    ∙ terminal_after-append columns (line_signs line) (LineFeed ∷ []) p
    ∙ ap (terminal_after_sign columns LineFeed) (text_of_line columns line p)
    ∙ sym (terminal_after-append columns (map Char (line_text line)) (LineFeed ∷ []) p)
    ∙ text_wraps columns width height (line_text line) above (blank_row width) n

-- several lines
pub lines_wrap : (columns : ℕ → ℕ) (width height : ℕ) (lines : List Line) (above : List (List Cell)) (n : ℕ) → 0 < n
    → let rows = message_rows true columns width lines in
    terminal_after columns (lines_over Overwriting [] lines) (at width height true above (replicate n (blank_cells width)))
    ≡ at width height true (above ++ rows) (replicate (max 1 (n - length rows)) (blank_cells width))
lines_wrap columns width height [] above n i =
    ap (λ (a : List (List Cell)). at width height true a (replicate n (blank_cells width))) (sym (append-nil above))
    ∙ ap (λ (k : ℕ). at width height true (above ++ []) (replicate k (blank_cells width))) (let e : n ≡ max 1 (n - 0) = omega arith in e)
lines_wrap columns width height (line ∷ lines) above zero i = absurd (omega arith)
lines_wrap columns width height (line ∷ lines) above (suc n) i =
    let here = wrapped columns width (line_text line) in
    let others = message_rows true columns width lines in
    let left = max 1 ((n + 1) - length here) in
    let size : length (here ++ others) ≡ length here + length others = length-append here others in
    terminal_after-append columns (overwrite_line 0 line) (lines_over Overwriting [] lines) (at width height true above (replicate (suc n) (blank_cells width)))
    ∙ ap (terminal_after columns (lines_over Overwriting [] lines)) (line_wraps columns width height above n line)
    ∙ lines_wrap columns width height lines (above ++ here) left (omega arith)
    ∙ ap (λ (k : ℕ). at width height true ((above ++ here) ++ others) (replicate k (blank_cells width)))
    (let e : max 1 (left - length others) ≡ max 1 (suc n - length (here ++ others)) = omega arith in e)
    ∙ ap (λ (a : List (List Cell)). at width height true a (replicate (max 1 (suc n - length (here ++ others))) (blank_cells width))) (append_assoc above here others)

-- ---- rows that are blanked first

-- the rows from the cursor's on are blank, no fewer than before, and no more than the window has
pub record Blanked (columns : ℕ → ℕ) (width height : ℕ) (above below : List (List Cell)) : Type 0 where
  pub count : ℕ
  pub is : terminal_after columns (EraseLine ∷ blank_below height) (at width height true above below) ≡ at width height true above (replicate count (blank_cells width))
  pub some : 0 < count
  pub fits : count ≤ height
  pub kept : length below ≤ count

length-below_or : (width : ℕ) (below : List (List Cell)) → length (below_or width below) ≡ max 1 (length below)
length-below_or width [] = omega arith
length-below_or width (row ∷ below) = omega arith

-- in a window of several rows
blanked_below : (columns : ℕ → ℕ) (width height : ℕ) (above : List (List Cell)) (row : List Cell) (below : List (List Cell)) → 1 + length (below_or width below) ≤ height → 0 < length (below_or width below) → height < 2 ^ 16
    → terminal_after columns (EraseLine ∷ LineFeed ∷ EraseBelow ∷ Up 1 ∷ []) (at width height true above (row ∷ below)) ≡ at width height true above (replicate (suc (length (below_or width below))) (blank_cells width))
blanked_below columns width height above row below fits some low =
    let m = length (below_or width below) in
    let size : length (replicate m (blank_cells width)) ≡ m = length-replicate m (blank_cells width) in
    ap (terminal_after columns (LineFeed ∷ EraseBelow ∷ Up 1 ∷ [])) (erase_at columns width height true above row below)
    ∙ ap (terminal_after columns (EraseBelow ∷ Up 1 ∷ [])) (next_on width height true above (blank_row width) below)
    ∙ ap (terminal_after columns (Up 1 ∷ [])) (below_at columns width height true (above ++ blank_cells width ∷ []) (below_or width below) some)
    ∙ cursor_up_at columns width height true above (blank_cells width ∷ []) (replicate m (blank_cells width)) (omega arith) (omega arith) low

-- by whether it has several
blanked_if : (b : Bool) (columns : ℕ → ℕ) (width height : ℕ) (above : List (List Cell)) (row : List Cell) (below : List (List Cell)) → nat_lt 1 height ≡ b
    → length (row ∷ below) ≤ height → height < 2 ^ 16 → (b ≡ true → 1 < height) → (b ≡ false → height ≤ 1) → Blanked columns width height above (row ∷ below)
blanked_if true columns width height above row below e fits low many one =
    let m = length (below_or width below) in
    let high : 1 < height = many refl in
    let size : m ≡ max 1 (length below) = length-below_or width below in
    record {
      count = suc m;
      is = ap (λ (b : Bool). terminal_after columns (EraseLine ∷ cond b (LineFeed ∷ EraseBelow ∷ Up 1 ∷ []) []) (at width height true above (row ∷ below))) e
          ∙ blanked_below columns width height above row below (omega arith) (omega arith) low;
      some = omega arith;
      fits = omega arith;
      kept = omega arith;
    }
blanked_if false columns width height above row below e fits low many one =
    let single : height ≤ 1 = one refl in
    let none : below ≡ [] = nil_from_length below (omega arith) in
    record {
      count = 1;
      is = ap (λ (b : Bool). terminal_after columns (EraseLine ∷ cond b (LineFeed ∷ EraseBelow ∷ Up 1 ∷ []) []) (at width height true above (row ∷ below))) e
          ∙ erase_at columns width height true above row below
          ∙ ap (λ (rows : List (List Cell)). at width height true above (blank_cells width ∷ rows)) none;
      some = omega arith;
      fits = omega arith;
      kept = omega arith;
    }

lt_by : (n : ℕ) → ((nat_lt 1 n ≡ true) → 1 < n) × ((nat_lt 1 n ≡ false) → n ≤ 1)
lt_by n = (λ e. grind (arith, nat_tests), λ e. grind (arith, nat_tests))

pub blanked : (columns : ℕ → ℕ) (width height : ℕ) (above below : List (List Cell)) → 0 < length below → length below ≤ height → height < 2 ^ 16 → Blanked columns width height above below
blanked columns width height above [] some fits low = absurd (omega arith)
blanked columns width height above (row ∷ below) some fits low =
    let by = lt_by height in
    blanked_if (nat_lt 1 height) columns width height above row below refl fits low by.0 by.1
