-- One line on a page, over the line on screen in its row.
use Rattle.std.proofs.Common.{Bool, false, ◌≡◌, ℕ, ◌+◌, ◌-◌, ◌≤◌, List, [], ◌∷◌, ◌++◌, Option, Some, None, length, drop, map, sym, ap, ◌∙◌, append_assoc, length-append, length-drop, arith}
use Rattle.std.specs.Prelude.{replicate}
use Rattle.std.proofs.lemmas.List.{append-nil, drop-drop, drop-replicate, replicate-append-replicate, length-replicate}
use Rattle.prodash_line.specs.declared.render.line.page.sign.Sign.TheVariants.{Char, LineFeed, Reset}
use Rattle.prodash_line.specs.declared.render.line.page.style.Style.{Style}
use Rattle.prodash_line.specs.Lines.{Line, columns_of, line_text}
use Rattle.prodash_line.specs.Frames.{styled_signs, piece_signs, line_signs, overwrite_line}
use Rattle.prodash_line.specs.Page.{after_sign, page_after}
use Rattle.prodash_line.specs.Shows.{cells_of}
use Rattle.prodash_line.specs.Fits.{LineFits}
use Rattle.prodash_line.proofs.CursorRow.{at, inside, page_after-append, text_inside, some_row, feed_inside}

-- a text in a style, as far as the row goes
piece_inside : (columns height : ℕ) (wraps : Bool) (above : List (List ℕ)) (written rest : List ℕ) (below : List (List ℕ)) (style : Option Style) (text : List ℕ)
    → length written + length rest ≡ columns → length text ≤ length rest
    → page_after (styled_signs style text) (inside columns height wraps above written rest below) ≡ inside columns height wraps above (written ++ text) (drop (length text) rest) below
piece_inside columns height wraps above written rest below None text e fits = text_inside columns height wraps above written text rest below e fits
piece_inside columns height wraps above written rest below (Some style) [] e fits = text_inside columns height wraps above written [] rest below e fits
piece_inside columns height wraps above written rest below (Some style) (c ∷ text) e fits =
    page_after-append (map Char (c ∷ text)) (Reset ∷ []) (inside columns height wraps above written rest below)
    ∙ text_inside columns height wraps above written (c ∷ text) rest below e fits

-- a line, as far as the row goes
pub line_inside : (columns height : ℕ) (wraps : Bool) (above : List (List ℕ)) (written rest : List ℕ) (below : List (List ℕ)) (line : Line)
    → length written + length rest ≡ columns → length (line_text line) ≤ length rest
    → page_after (line_signs line) (inside columns height wraps above written rest below) ≡ inside columns height wraps above (written ++ line_text line) (drop (length (line_text line)) rest) below
line_inside columns height wraps above written rest below [] e fits = ap (λ (w : List ℕ). inside columns height wraps above w rest below) (sym (append-nil written))
line_inside columns height wraps above written rest below (p ∷ ps) e fits =
    let sum : length (line_text (p ∷ ps)) ≡ length p.text + length (line_text ps) = length-append p.text (line_text ps) in
    let left : length (drop (length p.text) rest) ≡ length rest - length p.text = length-drop (length p.text) rest in
    let more : length (written ++ p.text) ≡ length written + length p.text = length-append written p.text in
    page_after-append (piece_signs p) (line_signs ps) (inside columns height wraps above written rest below)
    ∙ ap (page_after (line_signs ps)) (piece_inside columns height wraps above written rest below p.style p.text e (omega arith))
    ∙ line_inside columns height wraps above (written ++ p.text) (drop (length p.text) rest) below ps (omega arith) (omega arith)
    ∙ ap (λ (w : List ℕ). inside columns height wraps above w (drop (length (line_text ps)) (drop (length p.text) rest)) below) (append_assoc written p.text (line_text ps))
    ∙ ap (λ (r : List ℕ). inside columns height wraps above (written ++ line_text (p ∷ ps)) r below) (drop-drop (length (line_text ps)) (length p.text) rest ∙ ap (λ (n : ℕ). drop n rest) (sym sum))

-- the row is blank from there on
abbrev pub BlankFrom : ℕ → ℕ → List ℕ → Type 0
BlankFrom columns old row = drop old row ≡ replicate (columns - old) 32

-- and from any later column on
pub BlankFrom-later : (columns old new : ℕ) (row : List ℕ) → BlankFrom columns old row → old ≤ new → BlankFrom columns new row
BlankFrom-later columns old new row h le =
    ap (λ (n : ℕ). drop n row) (let e : new ≡ old + (new - old) = omega arith in e)
    ∙ sym (drop-drop (new - old) old row)
    ∙ ap (drop (new - old)) h
    ∙ drop-replicate (new - old) (columns - old) 32
    ∙ ap (λ (n : ℕ). replicate n 32) (let e : (columns - old) - (new - old) ≡ columns - new = omega arith in e)

-- the text, spaces as far as the old line reached and what is past it are the text and blanks
pub padded : (columns old : ℕ) (row text : List ℕ) → BlankFrom columns old row → length row ≡ columns → old ≤ columns → length text ≤ columns
    → (text ++ replicate (old - length text) 32) ++ drop (old - length text) (drop (length text) row) ≡ text ++ replicate (columns - length text) 32
padded columns old row text h e l t =
    append_assoc text (replicate (old - length text) 32) _
    ∙ ap (λ (r : List ℕ). text ++ (replicate (old - length text) 32 ++ r)) (drop-drop (old - length text) (length text) row ∙ BlankFrom-later columns old (length text + (old - length text)) row h (omega arith))
    ∙ ap (λ (r : List ℕ). text ++ r) (replicate-append-replicate (old - length text) (columns - (length text + (old - length text))) 32)
    ∙ ap (λ (n : ℕ). text ++ replicate n 32) (let e : (old - length text) + (columns - (length text + (old - length text))) ≡ columns - length text = omega arith in e)

-- a line over a row that is blank past the old line
pub overwrite_line_at : (columns height : ℕ) (wraps : Bool) (old : ℕ) (above : List (List ℕ)) (row : List ℕ) (below : List (List ℕ)) (l : Line)
    → LineFits false columns l → old ≤ columns → length row ≡ columns → BlankFrom columns old row
    → page_after (overwrite_line old l) (at columns height wraps above (row ∷ below)) ≡ at columns height wraps (above ++ cells_of columns l ∷ []) (some_row columns below)
overwrite_line_at columns height wraps old above row below l fit o e h =
    let text = line_text l in
    let n = old - length text in
    let each : columns_of l ≡ length text = fit.plain.columns in
    let fits : length text ≤ columns = omega (arith, each, fit.within) in
    let left : length (drop (length text) row) ≡ length row - length text = length-drop (length text) row in
    let size : length (replicate {A = ℕ} n 32) ≡ n = length-replicate n 32 in
    ap (λ (k : ℕ). page_after (line_signs l ++ (map Char (replicate (old - k) 32) ++ LineFeed ∷ [])) (at columns height wraps above (row ∷ below))) each
    ∙ page_after-append (line_signs l) (map Char (replicate n 32) ++ LineFeed ∷ []) (at columns height wraps above (row ∷ below))
    ∙ ap (page_after (map Char (replicate n 32) ++ LineFeed ∷ [])) (line_inside columns height wraps above [] row below l (omega arith) (omega arith))
    ∙ page_after-append (map Char (replicate n 32)) (LineFeed ∷ []) (inside columns height wraps above text (drop (length text) row) below)
    ∙ ap (after_sign LineFeed) (text_inside columns height wraps above text (replicate n 32) (drop (length text) row) below (omega arith) (omega arith))
    ∙ ap (λ (k : ℕ). after_sign LineFeed (inside columns height wraps above (text ++ replicate n 32) (drop k (drop (length text) row)) below)) size
    ∙ feed_inside columns height wraps above (text ++ replicate n 32) (drop n (drop (length text) row)) below
    ∙ ap (λ (r : List ℕ). at columns height wraps (above ++ r ∷ []) (some_row columns below)) (padded columns old row text h e o fits)
