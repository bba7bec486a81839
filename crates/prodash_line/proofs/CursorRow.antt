-- Characters written into the cursor's row, and a line feed.
use Rattle.std.proofs.Common.{◌≡◌, ℕ, ◌+◌, ◌<◌, ◌≤◌, Bool, cond, List, [], ◌∷◌, ◌++◌, length, drop, set, get_or, map, refl, sym, ap, ◌∙◌, append_assoc, length-append, arith}
use Rattle.std.specs.Prelude.{replicate}
use Rattle.std.proofs.lemmas.Bool.{lt-ltb, le-ltb}
use Rattle.std.proofs.lemmas.List.{get_or_at, set_at, length_push, append-nil}
use Rattle.prodash_line.specs.declared.render.line.page.sign.Sign.{Sign}
use Rattle.prodash_line.specs.declared.render.line.page.sign.Sign.TheVariants.{Char, LineFeed}
use Rattle.prodash_line.specs.Page.{Canvas, blank, with_row, put_char, put_past, after_sign, page_after}

-- a page by the rows above the cursor's and the others, with the cursor at column 0
abbrev pub at : ℕ → ℕ → Bool → List (List ℕ) → List (List ℕ) → Canvas
at columns height wraps above below = record { columns = columns; height = height; rows = above ++ below; row = length above; column = 0; wraps = wraps }

-- the same with the cursor inside its row, between the cells that are written and the others
abbrev pub inside : ℕ → ℕ → Bool → List (List ℕ) → List ℕ → List ℕ → List (List ℕ) → Canvas
inside columns height wraps above written rest below = record { columns = columns; height = height; rows = above ++ (written ++ rest) ∷ below; row = length above; column = length written; wraps = wraps }

-- signs after others
pub page_after-append : (xs ys : List Sign) (p : Canvas) → page_after (xs ++ ys) p ≡ page_after ys (page_after xs p)
page_after-append [] ys p = refl
page_after-append (x ∷ xs) ys p = page_after-append xs ys (after_sign x p)

-- a character in the cursor's cell
pub put_inside : (columns height : ℕ) (wraps : Bool) (above : List (List ℕ)) (written : List ℕ) (c r : ℕ) (rest : List ℕ) (below : List (List ℕ))
    → put_char c (inside columns height wraps above written (r ∷ rest) below) ≡ inside columns height wraps above (written ++ c ∷ []) rest below
put_inside columns height wraps above written c r rest below =
    let old : List ℕ = written ++ r ∷ rest in
    let e0 : set old (length written) c ≡ (written ++ c ∷ []) ++ rest = set_at written r rest c (length written) refl ∙ sym (append_assoc written (c ∷ []) rest) in
    let e1 : get_or (above ++ old ∷ below) (length above) [] ≡ old = get_or_at above old below [] (length above) refl in
    let e2 : (row : List ℕ) → set (above ++ old ∷ below) (length above) row ≡ above ++ row ∷ below = λ row. set_at above old below row (length above) refl in
    let e3 : set (above ++ old ∷ below) (length above) (set (get_or (above ++ old ∷ below) (length above) []) (length written) c) ≡ above ++ ((written ++ c ∷ []) ++ rest) ∷ below =
    e2 _ ∙ ap (λ (row : List ℕ). above ++ (set row (length written) c) ∷ below) e1 ∙ ap (λ (row : List ℕ). above ++ row ∷ below) e0 in
    ap (λ (rows : List (List ℕ)). record { columns = columns; height = height; rows = rows; row = length above; column = length written + 1; wraps = wraps }) e3
    ∙ ap (λ (column : ℕ). record { columns = columns; height = height; rows = above ++ ((written ++ c ∷ []) ++ rest) ∷ below; row = length above; column = column; wraps = wraps }) (sym (length_push written c))

-- a character, if the row has room
pub char_inside : (columns height : ℕ) (wraps : Bool) (above : List (List ℕ)) (written : List ℕ) (c r : ℕ) (rest : List ℕ) (below : List (List ℕ))
    → length written < columns
    → after_sign (Char c) (inside columns height wraps above written (r ∷ rest) below) ≡ inside columns height wraps above (written ++ c ∷ []) rest below
char_inside columns height wraps above written c r rest below fits =
    let p : Canvas = inside columns height wraps above written (r ∷ rest) below in
    ap (λ (b : Bool). cond b (put_char c p) (put_past c p)) (lt-ltb _ _ fits) ∙ put_inside columns height wraps above written c r rest below

-- a text, as far as the row goes
pub text_inside : (columns height : ℕ) (wraps : Bool) (above : List (List ℕ)) (written text rest : List ℕ) (below : List (List ℕ))
    → length written + length rest ≡ columns → length text ≤ length rest
    → page_after (map Char text) (inside columns height wraps above written rest below) ≡ inside columns height wraps above (written ++ text) (drop (length text) rest) below
text_inside columns height wraps above written [] rest below e fits =
    ap (λ (w : List ℕ). inside columns height wraps above w rest below) (sym (append-nil written))
text_inside columns height wraps above written (c ∷ text) [] below e fits = absurd (omega arith)
text_inside columns height wraps above written (c ∷ text) (r ∷ rest) below e fits =
    ap (page_after (map Char text)) (char_inside columns height wraps above written c r rest below (omega arith))
    ∙ text_inside columns height wraps above (written ++ c ∷ []) text rest below (omega (arith, length_push written c)) (omega arith)
    ∙ ap (λ (w : List ℕ). inside columns height wraps above w (drop (length text) rest) below) (append_assoc written (c ∷ []) text)

-- the rows, or a blank one if there is none
abbrev pub some_row : ℕ → List (List ℕ) → List (List ℕ)
some_row columns [] = replicate columns 32 ∷ []
some_row columns (row ∷ rows) = row ∷ rows

-- the rows with one below the cursor's
pub with_row-below : (columns : ℕ) (above below : List (List ℕ)) (row : List ℕ)
    → with_row columns (length above + 1) (above ++ row ∷ below) ≡ (above ++ row ∷ []) ++ some_row columns below
with_row-below columns above [] row =
    ap (λ (b : Bool). cond b (above ++ row ∷ []) ((above ++ row ∷ []) ++ blank columns ∷ [])) (le-ltb _ _ (omega (arith, length_push above row)))
with_row-below columns above (next ∷ below) row =
    ap (λ (b : Bool). cond b (above ++ row ∷ next ∷ below) ((above ++ row ∷ next ∷ below) ++ blank columns ∷ [])) (lt-ltb _ _ (omega (arith, length-append above (row ∷ next ∷ below))))
    ∙ sym (append_assoc above (row ∷ []) (next ∷ below))

-- a line feed
pub feed_inside : (columns height : ℕ) (wraps : Bool) (above : List (List ℕ)) (written rest : List ℕ) (below : List (List ℕ))
    → after_sign LineFeed (inside columns height wraps above written rest below) ≡ at columns height wraps (above ++ (written ++ rest) ∷ []) (some_row columns below)
feed_inside columns height wraps above written rest below =
    ap (λ (rows : List (List ℕ)). record { columns = columns; height = height; rows = rows; row = length above + 1; column = 0; wraps = wraps }) (with_row-below columns above below (written ++ rest))
    ∙ ap (λ (row : ℕ). record { columns = columns; height = height; rows = (above ++ (written ++ rest) ∷ []) ++ some_row columns below; row = row; column = 0; wraps = wraps }) (sym (length_push above (written ++ rest)))
