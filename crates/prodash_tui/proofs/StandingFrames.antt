-- The rows of a display with other widths stand for those of the grid after a frame.
use Rattle.std.proofs.Common.{◌≡◌, ℕ, suc, ◌+◌, Bool, true, false, cond, inl, inr, Option, None, List, [], ◌∷◌, ◌++◌, length, set, get_or, refl, sym, ap, subst, ◌∙◌, append_assoc, length-append, arith}
use Rattle.std.specs.List.{AllByRecursion}
use Rattle.std.proofs.lemmas.Bool.{and_parts}
use Rattle.std.proofs.lemmas.List.{get_or_at, length_push, set_at}
use Rattle.prodash_line.specs.CellRows.{char_columns}
use Rattle.prodash_tui.specs.declared.cell.Cell.{Cell}
use Rattle.prodash_tui.specs.declared.cursor.Cursor.{Cursor}
use Rattle.prodash_tui.specs.declared.sign.Sign.TheVariants.{EraseScreen, SetStyle}
use Rattle.prodash_tui.specs.Cells.{plain}
use Rattle.prodash_tui.specs.Differences.{IsProperSheet}
use Rattle.prodash_tui.specs.Displays.{Display, after_signs}
use Rattle.prodash_tui.specs.Frames.{HaveOneSize, changes_of, difference, first_frame, row_cursor, row_signs, rows_signs}
use Rattle.prodash_tui.specs.Grids.{Sheet, blank_sheet}
use Rattle.prodash_tui.specs.HeldCharacters.{IsOf, RowsHold}
use Rattle.prodash_tui.specs.OtherWidths.{AreWidths, RowsStand, ShowsOnly, Stands, StandsFirst, StandsFor, StandsNext}
use Rattle.prodash_tui.specs.Screens.{Buffers, follows, frame, have_one_size}
use Rattle.prodash_tui.proofs.PlayedChanges.{Knows, after_append}
use Rattle.prodash_tui.proofs.PlayedFrames.{IsGood, good_rows}
use Rattle.prodash_tui.proofs.ProperGrids.{proper_blank}
use Rattle.prodash_tui.proofs.ProperRows.{space_columns}
use Rattle.prodash_tui.proofs.StandingChanges.{row_drawn}
use Rattle.prodash_tui.proofs.StandingCharacters.{IsRow}
use Rattle.prodash_tui.proofs.StandingRows.{stands_hold}

-- ---- rows

-- a display with other rows behind these, which stand for those of a grid
record RowsLeft (done new : List (List Cell)) (d e : Display) : Type 0 where
  rows : List (List Cell)
  stand : RowsStand rows new
  grid : e.grid ≡ record d.grid { rows = done ++ rows }
  wraps : e.wraps ≡ d.wraps

-- another row in place of the first one behind these
row_replaced : (done shown : List (List Cell)) (old row : List Cell) (d e : Display) → e.grid ≡ record d.grid { rows = set d.grid.rows (length done) row } → d.grid.rows ≡ done ++ old ∷ shown
    → e.grid ≡ record d.grid { rows = (done ++ row ∷ []) ++ shown }
row_replaced done shown old row d e is are =
    is
    ∙ ap (λ (rs : List (List Cell)). record d.grid { rows = set rs (length done) row }) are
    ∙ ap (λ (rs : List (List Cell)). record d.grid { rows = rs }) (set_at done old shown row (length done) refl ∙ sym (append_assoc done (row ∷ []) shown))

-- one row, and then others
left_more : (done new shown : List (List Cell)) (cells row : List Cell) (d e f : Display) → e.grid ≡ record d.grid { rows = (done ++ row ∷ []) ++ shown } → e.wraps ≡ d.wraps → Stands row cells
    → RowsLeft (done ++ row ∷ []) new e f → RowsLeft done (cells ∷ new) d f
left_more done new shown cells row d e f grid wraps stands others = record {
  rows = row ∷ others.rows;
  stand = (stands, others.stand);
  grid = others.grid
      ∙ ap (λ (g : Sheet). record g { rows = (done ++ row ∷ []) ++ others.rows }) grid
      ∙ ap (λ (rs : List (List Cell)). record d.grid { rows = rs }) (append_assoc done (row ∷ []) others.rows);
  wraps = others.wraps ∙ wraps;
}

-- the row behind these is ready for its changes
row_ready : (done shown : List (List Cell)) (row cells : List Cell) (d : Display) → d.grid.rows ≡ done ++ row ∷ shown → length done + length (row ∷ shown) ≡ d.grid.height → d.wraps ≡ false
    → length cells ≡ d.grid.width → Stands row cells → IsRow (length done) cells d
row_ready done shown row cells d are high unwrapped width stands =
    let here : get_or d.grid.rows (length done) [] ≡ row = ap (λ (rs : List (List Cell)). get_or rs (length done) []) are ∙ get_or_at done row shown [] (length done) refl in
    let many : length d.grid.rows ≡ length done + length (row ∷ shown) = ap length are ∙ length-append done (row ∷ shown) in
    record { low = omega arith; inside = omega arith; unwrapped = unwrapped; width = width; stands = subst (λ (r : List Cell). Stands r cells) (sym here) stands }

rows_left : (columns : ℕ → ℕ) → AreWidths columns → (old new shown done : List (List Cell)) (k : Option Cursor) (d : Display)
    → AllByRecursion (IsGood char_columns d.grid.width) old → AllByRecursion (IsGood char_columns d.grid.width) new → length old ≡ length new → RowsStand shown old
    → d.grid.rows ≡ done ++ shown → length done + length shown ≡ d.grid.height → d.wraps ≡ false → Knows k d → RowsLeft done new d (after_signs columns (rows_signs (length done) old new k) d)
rows_left columns widths [] [] [] done k d good proper size stand are high unwrapped knows =
    record { rows = []; stand = tt; grid = ap (λ (rs : List (List Cell)). record d.grid { rows = rs }) are; wraps = refl }
rows_left columns widths [] [] (r ∷ shown) done k d good proper size stand are high unwrapped knows = absurd stand
rows_left columns widths [] (b ∷ new) shown done k d good proper size stand are high unwrapped knows = absurd (omega arith)
rows_left columns widths (a ∷ old) [] shown done k d good proper size stand are high unwrapped knows = absurd (omega arith)
rows_left columns widths (a ∷ old) (b ∷ new) [] done k d good proper size stand are high unwrapped knows = absurd stand
rows_left columns widths (a ∷ old) (b ∷ new) (r ∷ shown) done k d good proper size stand are high unwrapped knows =
    let y = length done in
    let changes = changes_of a b in
    let behind = row_cursor y changes k in
    let next = after_signs columns (row_signs y changes k) d in
    let changed = row_drawn columns widths y a b k d good.0.0 proper.0.0 (good.0.1 ∙ sym proper.0.1) (row_ready done shown r a d are high unwrapped good.0.1 stand.0) knows in
    let more = done ++ changed.row ∷ [] in
    let grid : next.grid ≡ record d.grid { rows = more ++ shown } = row_replaced done shown r changed.row d next changed.grid are in
    let wide : d.grid.width ≡ next.grid.width = sym (ap (λ (g : Sheet). g.width) grid) in
    let tall : next.grid.height ≡ d.grid.height = ap (λ (g : Sheet). g.height) grid in
    let at : length more ≡ y + 1 = length_push done changed.row in
    let others = rows_left columns widths old new shown more behind next (subst (λ (n : ℕ). AllByRecursion (IsGood char_columns n) old) wide good.1)
    (subst (λ (n : ℕ). AllByRecursion (IsGood char_columns n) new) wide proper.1) (omega arith) stand.1 (ap (λ (g : Sheet). g.rows) grid) (omega arith) (changed.wraps ∙ unwrapped) changed.knows in
    subst (λ (e : Display). RowsLeft done (b ∷ new) d e) (sym (after_append columns (row_signs y changes k) (rows_signs (y + 1) old new behind) d))
    (left_more done new shown b changed.row d next (after_signs columns (rows_signs (y + 1) old new behind) next) grid changed.wraps changed.stands
    (subst (λ (n : ℕ). RowsLeft more new next (after_signs columns (rows_signs n old new behind) next)) at others))

rows_count : (rows others : List (List Cell)) → RowsStand rows others → length rows ≡ length others
rows_count [] [] stand = refl
rows_count [] (b ∷ others) stand = absurd stand
rows_count (a ∷ rows) [] stand = absurd stand
rows_count (a ∷ rows) (b ∷ others) stand = ap suc (rows_count rows others stand.1)

stand_self : (rows : List (List Cell)) → RowsStand rows rows
stand_self [] = tt
stand_self (row ∷ rows) = (record { size = refl; each = λ k. inr (inl refl) }, stand_self rows)

-- ---- frames

pub stands_next : (columns : ℕ → ℕ) → AreWidths columns → StandsNext columns
stands_next columns widths d before after stands size proper =
    let wide : before.width ≡ d.grid.width = sym stands.size.width in
    let wide_after : after.width ≡ d.grid.width = sym (stands.size.width ∙ size.width) in
    let left = rows_left columns widths before.rows after.rows d.grid.rows [] None d
    (subst (λ (n : ℕ). AllByRecursion (IsGood char_columns n) before.rows) wide (good_rows char_columns before stands.proper))
    (subst (λ (n : ℕ). AllByRecursion (IsGood char_columns n) after.rows) wide_after (good_rows char_columns after proper))
    (omega (arith, stands.proper.sheet.high, proper.sheet.high, size.height)) stands.rows refl
    (omega (arith, rows_count d.grid.rows before.rows stands.rows, stands.proper.sheet.high, stands.size.height)) stands.unwrapped tt in
    record {
      unwrapped = left.wraps ∙ stands.unwrapped;
      size = record { width = ap (λ (g : Sheet). g.width) left.grid ∙ sym wide_after; height = ap (λ (g : Sheet). g.height) left.grid ∙ stands.size.height ∙ size.height };
      proper = proper;
      rows = subst (λ (rs : List (List Cell)). RowsStand rs after.rows) (sym (ap (λ (g : Sheet). g.rows) left.grid)) left.stand;
    }

pub stands_first : (columns : ℕ → ℕ) → AreWidths columns → StandsFirst columns
stands_first columns widths d after unwrapped size proper =
    let start = after_signs columns (SetStyle plain ∷ EraseScreen ∷ []) d in
    let blank = blank_sheet after.width after.height in
    let is : start.grid ≡ blank = λ i. blank_sheet (size.width i) (size.height i) in
    stands_next columns widths start blank after
    (record {
      unwrapped = unwrapped;
      size = record { width = size.width; height = size.height };
      proper = proper_blank char_columns space_columns after.width after.height;
      rows = subst (λ (g : Sheet). RowsStand g.rows blank.rows) (sym is) (stand_self blank.rows);
    })
    (record { width = refl; height = refl }) proper

-- the frame of a screen, whatever is known of what is shown
pub stands_frame : (columns : ℕ → ℕ) → AreWidths columns → (b : Buffers) (d : Display) → d.wraps ≡ false → (b.is_shown ≡ true → StandsFor d b.front)
    → HaveOneSize d.grid b.back → IsProperSheet char_columns b.back → StandsFor (after_signs columns (frame b) d) b.back
stands_frame columns widths b d unwrapped shown size proper =
    let Left : Bool → Type 0 = λ (t : Bool). follows b ≡ t → StandsFor (after_signs columns (cond t (difference b.front b.back) (first_frame b.back)) d) b.back in
    let go : (t : Bool) → Left t = λ t. elim t as Left [
      | true ↦ λ is.
          let stands = shown (and_parts b.is_shown (have_one_size b.front b.back) is).0 in
          stands_next columns widths d b.front b.back stands (record { width = sym stands.size.width ∙ size.width; height = sym stands.size.height ∙ size.height }) proper
      | false ↦ λ is. stands_first columns widths d b.back unwrapped size proper
    ] in
    go (follows b) refl

-- ---- the characters of the rows

rows_hold : (P : ℕ → ℕ → Type 0) → ((y : ℕ) → P y 32) → (y : ℕ) (rows others : List (List Cell)) → RowsStand rows others → RowsHold P y others → RowsHold P y rows
rows_hold P spaces y [] others stand holds = tt
rows_hold P spaces y (row ∷ rows) [] stand holds = absurd stand
rows_hold P spaces y (row ∷ rows) (cells ∷ others) stand holds = (stands_hold (P y) (spaces y) row cells stand.0 holds.0, rows_hold P spaces (y + 1) rows others stand.1 holds.1)

pub shows_only : ShowsOnly
shows_only d g stands test spaces holds = rows_hold (IsOf test) spaces 0 d.grid.rows g.rows stands.rows holds
