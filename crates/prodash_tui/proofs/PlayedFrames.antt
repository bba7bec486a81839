-- What a display shows after a frame.
use Rattle.std.proofs.Common.{◌≡◌, ℕ, ◌+◌, ◌≤◌, Bool, true, false, cond, ◌||◌, Option, None, List, [], ◌∷◌, ◌++◌, length, set, get_or, refl, sym, ap, subst, ◌∙◌, append_assoc, arith}
use Rattle.std.specs.List.{AllByRecursion}
use Rattle.std.proofs.lemmas.List.{get_or_at, length-append, length_push, set_at}
use Rattle.std.proofs.lemmas.List.Elements.{recursion_from_All}
use Rattle.prodash_tui.specs.declared.cell.Cell.{Cell}
use Rattle.prodash_tui.specs.declared.cell.Cell.TheVariants.{Holds, Half}
use Rattle.prodash_tui.specs.declared.cursor.Cursor.{Cursor}
use Rattle.prodash_tui.specs.declared.sign.Sign.{Sign}
use Rattle.prodash_tui.specs.declared.sign.Sign.TheVariants.{SetStyle, EraseScreen}
use Rattle.prodash_tui.specs.Cells.{plain, same_cell}
use Rattle.prodash_tui.specs.Grids.{Sheet, blank_sheet}
use Rattle.prodash_tui.specs.Differences.{IsProper, IsProperSheet, half_of, redrawn, row_changes}
use Rattle.prodash_tui.specs.Displays.{Display, after_signs}
use Rattle.prodash_tui.specs.Frames.{DrawsFirst, DrawsNext, changes_of, difference, row_cursor, row_signs, rows_signs}
use Rattle.prodash_base.specs.plumbing.EqualityTests.{sound}
use Rattle.prodash_tui.specs.plumbing.SameCells as same
use Rattle.prodash_tui.proofs.PlayedChanges.{Fit, IsCharacter, Knows, after_append, drawn_row}
use Rattle.prodash_tui.proofs.ProperGrids.{proper_blank}
use Rattle.prodash_tui.proofs.RowDifferences.{redrawn_row}

-- ---- the changes of proper rows fit

fit_step : (columns : ℕ → ℕ) (test : Cell → Cell → Bool) (width x : ℕ) (a b : Cell) (cells : List Cell) (rest : List (ℕ × List Cell))
    → IsCharacter columns (b ∷ cells) → x + length (b ∷ cells) ≤ width → Fit columns width rest
    → Fit columns width (cond (test a b || false) rest ((x, b ∷ cells) ∷ rest))
fit_step columns test width x a b cells rest is fits others =
    let go : (t : Bool) → Fit columns width (cond (t || false) rest ((x, b ∷ cells) ∷ rest)) =
    λ t. elim t as (λ t. Fit columns width (cond (t || false) rest ((x, b ∷ cells) ∷ rest))) [
      | true ↦ others
      | false ↦ ((is, fits), others)
    ] in
    go (test a b)

or_true : (b : Bool) → (b || true) ≡ true
or_true true = refl
or_true false = refl

pub changes_fit : (columns : ℕ → ℕ) (test : Cell → Cell → Bool) (width : ℕ) (new old : List Cell) (x : ℕ) → IsProper columns new → length old ≡ length new → x + length new ≤ width
    → Fit columns width (row_changes test x old new)
changes_fit columns test width [] [] x h size fits = tt
changes_fit columns test width [] (a ∷ old) x h size fits = tt
changes_fit columns test width (b ∷ new) [] x h size fits = absurd (omega arith)
changes_fit columns test width (Half ∷ new) (a ∷ old) x h size fits = absurd h
changes_fit columns test width (Holds c js style ∷ []) (a ∷ old) x h size fits =
    fit_step columns test width x a (Holds c js style) [] (row_changes test (x + 1) old []) (h.0, h.1) (omega arith) (changes_fit columns test width [] old (x + 1) tt (omega arith) (omega arith))
changes_fit columns test width (Holds c js style ∷ Holds d ks look ∷ new) (a ∷ old) x h size fits =
    fit_step columns test width x a (Holds c js style) [] (row_changes test (x + 1) old (Holds d ks look ∷ new)) (h.0, h.1) (omega arith)
    (changes_fit columns test width (Holds d ks look ∷ new) old (x + 1) h.2 (omega arith) (omega arith))
changes_fit columns test width (Holds c js style ∷ Half ∷ new) (a ∷ []) x h size fits = absurd (omega arith)
changes_fit columns test width (Holds c js style ∷ Half ∷ new) (a ∷ b ∷ old) x h size fits =
    let later = row_changes test (x + 1 + 1) old new in
    let skipped : later ≡ row_changes test (x + 1) (b ∷ old) (Half ∷ new) = ap (λ (t : Bool). cond t later ((x + 1, Half ∷ half_of new) ∷ later)) (sym (or_true (test b Half))) in
    fit_step columns test width x a (Holds c js style) (Half ∷ []) (row_changes test (x + 1) (b ∷ old) (Half ∷ new)) (h.0, h.1) (omega arith)
    (subst (Fit columns width) skipped (changes_fit columns test width new old (x + 1 + 1) h.2 (omega arith) (omega arith)))

-- ---- rows

-- signs and then others, at the grid alone
after_grid : (columns : ℕ → ℕ) (a b : List Sign) (d : Display) → (after_signs columns (a ++ b) d).grid ≡ (after_signs columns b (after_signs columns a d)).grid
after_grid columns a b d = ap (λ (e : Display). e.grid) (after_append columns a b d)

-- a proper row of this width
abbrev pub IsGood : (ℕ → ℕ) → ℕ → List Cell → Type 0
IsGood columns width row = IsProper columns row × (length row ≡ width)

drawn_rows : (columns : ℕ → ℕ) → columns 32 ≡ 1 → (old new done : List (List Cell)) (k : Option Cursor) (d : Display)
    → AllByRecursion (IsGood columns d.grid.width) old → AllByRecursion (IsGood columns d.grid.width) new → length old ≡ length new
    → d.grid.rows ≡ done ++ old → length done + length old ≡ d.grid.height → Knows k d
    → (after_signs columns (rows_signs (length done) old new k) d).grid ≡ record d.grid { rows = done ++ new }
drawn_rows columns space [] [] done k d good proper size shown high knows = ap (λ (rs : List (List Cell)). record d.grid { rows = rs }) shown
drawn_rows columns space [] (b ∷ new) done k d good proper size shown high knows = absurd (omega arith)
drawn_rows columns space (a ∷ old) [] done k d good proper size shown high knows = absurd (omega arith)
drawn_rows columns space (a ∷ old) (b ∷ new) done k d good proper size shown high knows =
    let row = length done in
    let changes = changes_of a b in
    let next = after_signs columns (row_signs row changes k) d in
    let here : get_or d.grid.rows row [] ≡ a = ap (λ (rs : List (List Cell)). get_or rs row []) shown ∙ get_or_at done a old [] row refl in
    let many : length d.grid.rows ≡ length done + length (a ∷ old) = ap length shown ∙ length-append done (a ∷ old) in
    let fit : Fit columns d.grid.width changes = changes_fit columns same_cell d.grid.width b a 0 proper.0.0 (good.0.1 ∙ sym proper.0.1) (omega (arith, proper.0.1)) in
    let drawn = drawn_row columns space row changes k d fit (record { knows = knows; low = omega arith; inside = omega arith; width = ap length here ∙ good.0.1 }) in
    let becomes : redrawn changes (get_or d.grid.rows row []) ≡ b = ap (redrawn changes) here ∙ redrawn_row columns same_cell a b (sound same.cells) good.0.0 proper.0.0 (good.0.1 ∙ sym proper.0.1) in
    let grid : next.grid ≡ record d.grid { rows = (done ++ b ∷ []) ++ old } =
    drawn.grid
    ∙ ap (λ (r : List Cell). record d.grid { rows = set d.grid.rows row r }) becomes
    ∙ ap (λ (rs : List (List Cell)). record d.grid { rows = set rs row b }) shown
    ∙ ap (λ (rs : List (List Cell)). record d.grid { rows = rs }) (set_at done a old b row refl ∙ sym (append_assoc done (b ∷ []) old)) in
    let wide : d.grid.width ≡ next.grid.width = sym (ap (λ (g : Sheet). g.width) grid) in
    let tall : next.grid.height ≡ d.grid.height = ap (λ (g : Sheet). g.height) grid in
    let at : row + 1 ≡ length (done ++ b ∷ []) = sym (length_push done b) in
    let behind = row_cursor row changes k in
    after_grid columns (row_signs row changes k) (rows_signs (row + 1) old new behind) d
    ∙ ap (λ (n : ℕ). (after_signs columns (rows_signs n old new behind) next).grid) at
    ∙ drawn_rows columns space old new (done ++ b ∷ []) behind next (subst (λ (n : ℕ). AllByRecursion (IsGood columns n) old) wide good.1) (subst (λ (n : ℕ). AllByRecursion (IsGood columns n) new) wide proper.1)
    (omega arith) (ap (λ (g : Sheet). g.rows) grid) (omega arith) drawn.knows
    ∙ ap (λ (g : Sheet). record g { rows = (done ++ b ∷ []) ++ new }) grid
    ∙ ap (λ (rs : List (List Cell)). record d.grid { rows = rs }) (append_assoc done (b ∷ []) new)

-- ---- grids

both_rows : (columns : ℕ → ℕ) (width : ℕ) (rows : List (List Cell)) → AllByRecursion (IsProper columns) rows → AllByRecursion (λ row. length row ≡ width) rows → AllByRecursion (IsGood columns width) rows
both_rows columns width [] proper wide = tt
both_rows columns width (row ∷ rows) proper wide = ((proper.0, wide.0), both_rows columns width rows proper.1 wide.1)

pub good_rows : (columns : ℕ → ℕ) (g : Sheet) → IsProperSheet columns g → AllByRecursion (IsGood columns g.width) g.rows
good_rows columns g h =
    both_rows columns g.width g.rows (recursion_from_All (IsProper columns) g.rows h.proper) (recursion_from_All (λ (row : List Cell). length row ≡ g.width) g.rows h.sheet.each)

pub draws_next : (columns : ℕ → ℕ) → columns 32 ≡ 1 → DrawsNext columns
draws_next columns space after d before proper one_size =
    let w : d.grid.width ≡ after.width = one_size.width in
    let h : d.grid.height ≡ after.height = one_size.height in
    let new = subst (λ (n : ℕ). AllByRecursion (IsGood columns n) after.rows) (sym w) (good_rows columns after proper) in
    drawn_rows columns space d.grid.rows after.rows [] None d (good_rows columns d.grid before) new
    (omega (arith, before.sheet.high, proper.sheet.high)) refl (omega (arith, before.sheet.high)) tt
    ∙ (λ i. record { width = w i; height = h i; rows = after.rows })

pub draws_first : (columns : ℕ → ℕ) → columns 32 ≡ 1 → DrawsFirst columns
draws_first columns space after d proper one_size =
    let start = after_signs columns (SetStyle plain ∷ EraseScreen ∷ []) d in
    let blank : start.grid ≡ blank_sheet after.width after.height = λ i. blank_sheet (one_size.width i) (one_size.height i) in
    ap (λ (g : Sheet). (after_signs columns (difference g after) start).grid) (sym blank)
    ∙ draws_next columns space after start (subst (IsProperSheet columns) (sym blank) (proper_blank columns space after.width after.height)) proper
    (record { width = one_size.width; height = one_size.height })
