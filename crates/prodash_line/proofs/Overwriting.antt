-- Lines on a page, each over the line on screen in its row.
use Rattle.std.proofs.Common.{Bool, false, ◌≡◌, ℕ, zero, suc, ◌-◌, ◌<◌, ◌≤◌, List, [], ◌∷◌, ◌++◌, length, drop, map, refl, sym, ap, subst, ◌∙◌, append_assoc, length-append, arith}
use Rattle.std.specs.Prelude.{replicate, max}
use Rattle.std.proofs.lemmas.List.{append-nil, drop_at, length-replicate, drop_all, drop-map}
use Rattle.prodash_line.specs.Lines.{Line, columns_of, line_text}
use Rattle.prodash_line.specs.Frames.{overwrite_line, overwrite, first_width, widths_of}
use Rattle.prodash_line.specs.Page.{blank, page_after}
use Rattle.prodash_line.specs.Shows.{cells_of, ShowsLines}
use Rattle.prodash_line.specs.Fits.{LineFits, LinesFit}
use Rattle.prodash_line.proofs.Lists.{AllByRecursion-drop}
use Rattle.prodash_line.proofs.CursorRow.{at, page_after-append, some_row}
use Rattle.prodash_line.proofs.RowParts.{BlankFrom, overwrite_line_at}

-- the rows from the cursor's on after k line feeds
abbrev pub rows_after : ℕ → ℕ → List (List ℕ) → List (List ℕ)
rows_after columns zero below = below
rows_after columns (suc k) below = rows_after columns k (some_row columns (drop 1 below))

-- how many those are: at least one
pub length-rows_after : (columns k : ℕ) (below : List (List ℕ)) → 0 < length below → length (rows_after columns k below) ≡ max 1 (length below - k)
length-rows_after columns zero below h = omega arith
length-rows_after columns (suc k) [] h = absurd (omega arith)
length-rows_after columns (suc k) (row ∷ []) h = let e = length-rows_after columns k (blank columns ∷ []) (omega arith) in omega arith
length-rows_after columns (suc k) (row ∷ next ∷ below) h = let e = length-rows_after columns k (next ∷ below) (omega arith) in omega arith

-- a row is there
pub some_is : (columns : ℕ) (below : List (List ℕ)) → 0 < length (some_row columns below)
some_is columns [] = omega arith
some_is columns (row ∷ below) = omega arith

-- the lines below the first row
pub ShowsLines-next : (columns : ℕ) (old : List Line) (row : List ℕ) (below : List (List ℕ))
    → ShowsLines columns old (row ∷ below) → ShowsLines columns (drop 1 old) (some_row columns below)
ShowsLines-next columns [] row [] h = (refl, tt)
ShowsLines-next columns [] row (next ∷ below) h = h.1
ShowsLines-next columns (l ∷ []) row [] h = (refl, tt)
ShowsLines-next columns (l ∷ m ∷ ls) row [] h = absurd h.1
ShowsLines-next columns (l ∷ ls) row (next ∷ below) h = h.1

-- the lines on screen after k line feeds
pub ShowsLines-rows_after : (columns k : ℕ) (old : List Line) (below : List (List ℕ)) → 0 < length below
    → ShowsLines columns old below → ShowsLines columns (drop k old) (rows_after columns k below)
ShowsLines-rows_after columns zero old below i h = h
ShowsLines-rows_after columns (suc k) old [] i h = absurd (omega arith)
ShowsLines-rows_after columns (suc k) [] (row ∷ below) i h = subst (λ (s : List Line). ShowsLines columns s (rows_after columns k (some_row columns below))) (drop_all k [] (omega arith))
    (ShowsLines-rows_after columns k [] (some_row columns below) (some_is columns below) (ShowsLines-next columns [] row below h))
ShowsLines-rows_after columns (suc k) (l ∷ ls) (row ∷ below) i h = ShowsLines-rows_after columns k ls (some_row columns below) (some_is columns below) (ShowsLines-next columns (l ∷ ls) row below h)

-- the first row is blank past the first line
pub ShowsLines-first : (columns : ℕ) (old : List Line) (row : List ℕ) (below : List (List ℕ)) → LinesFit false columns old
    → ShowsLines columns old (row ∷ below) → (first_width (widths_of old) ≤ columns) × (length row ≡ columns) × BlankFrom columns (first_width (widths_of old)) row
ShowsLines-first columns [] row below fit h =
    let size : length (replicate {A = ℕ} columns 32) ≡ columns = length-replicate columns 32 in
    (omega arith, ap length h.0 ∙ size, h.0 ∙ ap (λ (n : ℕ). replicate n 32) (let e : columns ≡ columns - 0 = omega arith in e))
ShowsLines-first columns (l ∷ ls) row below fit h =
    let text = line_text l in
    let each : columns_of l ≡ length text = fit.0.plain.columns in
    let within : columns_of l ≤ columns = fit.0.within in
    let size : length (replicate {A = ℕ} (columns - length text) 32) ≡ columns - length text = length-replicate (columns - length text) 32 in (
      within,
      ap length h.0 ∙ length-append text (replicate (columns - length text) 32) ∙ omega arith,
      ap (drop (columns_of l)) h.0 ∙ drop_at text (replicate (columns - length text) 32) (columns_of l) (sym each) ∙ ap (λ (n : ℕ). replicate (columns - n) 32) (sym each),
    )

-- the lines come below the rows above, over as many lines on screen
pub overwrite_at : (columns height : ℕ) (wraps : Bool) (old lines : List Line) (above below : List (List ℕ))
    → LinesFit false columns old → LinesFit false columns lines → ShowsLines columns old below → 0 < length below
    → page_after (overwrite (widths_of old) lines) (at columns height wraps above below) ≡ at columns height wraps (above ++ map (cells_of columns) lines) (rows_after columns (length lines) below)
overwrite_at columns height wraps old [] above below s p h i = ap (λ (a : List (List ℕ)). at columns height wraps a below) (sym (append-nil above))
overwrite_at columns height wraps old (l ∷ ls) above [] s p h i = absurd (omega arith)
overwrite_at columns height wraps old (l ∷ ls) above (row ∷ below) s p h i =
    let begins = ShowsLines-first columns old row below s h in
    page_after-append (overwrite_line (first_width (widths_of old)) l) (overwrite (drop 1 (widths_of old)) ls) (at columns height wraps above (row ∷ below))
    ∙ ap (page_after (overwrite (drop 1 (widths_of old)) ls)) (overwrite_line_at columns height wraps (first_width (widths_of old)) above row below l p.0 begins.0 begins.1 begins.2)
    ∙ ap (λ (widths : List ℕ). page_after (overwrite widths ls) (at columns height wraps (above ++ cells_of columns l ∷ []) (some_row columns below))) (drop-map columns_of 1 old)
    ∙ overwrite_at columns height wraps (drop 1 old) ls (above ++ cells_of columns l ∷ []) (some_row columns below) (AllByRecursion-drop (LineFits false columns) 1 old s) p.1 (ShowsLines-next columns old row below h) (some_is columns below)
    ∙ ap (λ (a : List (List ℕ)). at columns height wraps a (rows_after columns (length ls) (some_row columns below))) (append_assoc above (cells_of columns l ∷ []) (map (cells_of columns) ls))
