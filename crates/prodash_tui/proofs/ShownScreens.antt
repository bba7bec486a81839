-- What a display shows after the frames of a screen.
use Rattle.std.proofs.Common.{◌≡◌, ℕ, zero, suc, ◌+◌, Bool, true, false, cond, nat_lt, Option, Some, None, List, [], ◌∷◌, ◌++◌, length, map, refl, sym, ap, subst, ◌∙◌}
use Rattle.std.specs.Prelude.{replicate, unwrap_or}
use Rattle.std.specs.List.{AllByRecursion}
use Rattle.std.proofs.lemmas.Bool.{and_parts}
use Rattle.std.proofs.lemmas.List.Elements.{recursion_from_All}
use Rattle.prodash_tui.specs.declared.cell.Cell.{Cell}
use Rattle.prodash_tui.specs.declared.cell.Cell.TheVariants.{Holds, Half}
use Rattle.prodash_tui.specs.declared.cursor.Cursor.{Cursor}
use Rattle.prodash_tui.specs.declared.sign.Sign.{Sign}
use Rattle.prodash_tui.specs.declared.sign.Sign.TheVariants.{Char, MoveTo, SetStyle, EraseScreen, EnterAlternate, LeaveAlternate, HideCursor, ShowCursor, NoWrap, Wrap}
use Rattle.prodash_tui.specs.declared.style.Style.{Style}
use Rattle.prodash_tui.specs.Cells.{plain, same_style}
use Rattle.prodash_tui.specs.Texts.{cells_with, cut}
use Rattle.prodash_tui.specs.Grids.{Sheet, blank_sheet}
use Rattle.prodash_tui.specs.Differences.{IsProperSheet}
use Rattle.prodash_tui.specs.Displays.{Display, after_char, after_sign, after_signs, at_next_row, at_row, goes_on, scrolled}
use Rattle.prodash_tui.specs.Frames.{are_certain, change_signs, changes_of, clearing, cursor_behind, difference, first_frame, is_at, motion, row_cursor, row_signs, rows_signs, style_change}
use Rattle.prodash_tui.specs.Screens.{Agrees, Buffers, DrawsEntered, DrawsFrames, Fits, Restores, RestoresFrames, StaysOnScreen, drawn, enter, follows, frame, frames, have_one_size, leave, unknown}
use Rattle.prodash_tui.proofs.PlayedChanges.{after_append}
use Rattle.prodash_tui.proofs.PlayedFrames.{draws_first, draws_next}

-- ---- frames enter and leave no screen

abbrev pub Stay : List Sign → Type 0
Stay signs = AllByRecursion StaysOnScreen signs

stay_append : (a b : List Sign) → Stay a → Stay b → Stay (a ++ b)
stay_append [] b first second = second
stay_append (s ∷ a) b first second = (first.0, stay_append a b first.1 second)

stay_if : (t : Bool) (a b : List Sign) → Stay a → Stay b → Stay (cond t a b)
stay_if true a b first second = first
stay_if false a b first second = second

motion_stays : (row column : ℕ) (k : Option Cursor) → Stay (motion row column k)
motion_stays row column None = (tt, tt)
motion_stays row column (Some cursor) = stay_if (is_at row column cursor) [] (MoveTo row column ∷ []) tt (tt, tt)

style_stays : (style : Style) (k : Option Cursor) → Stay (style_change style k)
style_stays style None = (tt, tt)
style_stays style (Some cursor) = stay_if (same_style cursor.style style) [] (SetStyle style ∷ []) tt (tt, tt)

chars_stay : (text : List ℕ) → Stay (map Char text)
chars_stay [] = tt
chars_stay (c ∷ text) = (tt, chars_stay text)

change_stays : (row column : ℕ) (cells : List Cell) (k : Option Cursor) → Stay (change_signs row column cells k)
change_stays row column [] k = tt
change_stays row column (Half ∷ cells) k = tt
change_stays row column (Holds c joined style ∷ cells) k =
    let new = Holds c joined style ∷ cells in
    let blanks = replicate (length new) 32 in
    let cleared = stay_if (are_certain new) [] (map Char blanks ++ MoveTo row column ∷ []) tt (stay_append (map Char blanks) (MoveTo row column ∷ []) (chars_stay blanks) (tt, tt)) in
    let text = stay_append (clearing row column new) (map Char (c ∷ joined)) cleared (chars_stay (c ∷ joined)) in
    stay_append (motion row column k) (style_change style k ++ (clearing row column new ++ map Char (c ∷ joined))) (motion_stays row column k)
    (stay_append (style_change style k) (clearing row column new ++ map Char (c ∷ joined)) (style_stays style k) text)

row_stays : (row : ℕ) (changes : List (ℕ × List Cell)) (k : Option Cursor) → Stay (row_signs row changes k)
row_stays row [] k = tt
row_stays row (c ∷ changes) k =
    let behind = cursor_behind row c.0 c.1 k in
    stay_append (change_signs row c.0 c.1 k) (row_signs row changes behind) (change_stays row c.0 c.1 k) (row_stays row changes behind)

rows_stay : (row : ℕ) (old new : List (List Cell)) (k : Option Cursor) → Stay (rows_signs row old new k)
rows_stay row [] new k = tt
rows_stay row (a ∷ old) [] k = tt
rows_stay row (a ∷ old) (b ∷ new) k =
    let changes = changes_of a b in
    let behind = row_cursor row changes k in
    stay_append (row_signs row changes k) (rows_signs (row + 1) old new behind) (row_stays row changes k) (rows_stay (row + 1) old new behind)

pub frame_stays : (b : Buffers) → Stay (frame b)
frame_stays b =
    let blank = blank_sheet b.back.width b.back.height in
    stay_if (follows b) (difference b.front b.back) (first_frame b.back) (rows_stay 0 b.front.rows b.back.rows None) (tt, (tt, rows_stay 0 blank.rows b.back.rows None))

frames_stay : (b : Buffers) (grids : List Sheet) → Stay (frames b grids)
frames_stay b [] = tt
frames_stay b (g ∷ grids) =
    let next = record b { back = g } in
    stay_append (frame next) (frames (drawn next) grids) (frame_stays next) (frames_stay (drawn next) grids)

-- ---- the main screen is kept under the alternate one

abbrev pub Kept : Type 0
Kept = Option (Sheet × Cursor)

main_of_either : (t : Bool) (a b : Display) (m : Kept) → a.main ≡ m → b.main ≡ m → (cond t a b).main ≡ m
main_of_either true a b m first second = first
main_of_either false a b m first second = second

char_keeps : (n c : ℕ) (d : Display) → (after_char n c d).main ≡ d.main
char_keeps zero c d = refl
char_keeps (suc n) c d =
    let new = cut d.grid.width (cells_with d.cursor.style (suc n) c [] []) in
    let row = d.cursor.row in
    main_of_either (goes_on new d) (at_next_row d) d d.main
    (main_of_either (nat_lt (row + 1) d.grid.height) (at_row (row + 1) d) (at_row row (scrolled d)) d.main refl refl) refl

sign_keeps : (columns : ℕ → ℕ) (s : Sign) (d : Display) → StaysOnScreen s → (after_sign columns s d).main ≡ d.main
sign_keeps columns (Char c) d stays = char_keeps (columns c) c d
sign_keeps columns (MoveTo row column) d stays = refl
sign_keeps columns (SetStyle style) d stays = refl
sign_keeps columns EraseScreen d stays = refl
sign_keeps columns EnterAlternate d stays = absurd stays
sign_keeps columns LeaveAlternate d stays = absurd stays
sign_keeps columns HideCursor d stays = refl
sign_keeps columns ShowCursor d stays = refl
sign_keeps columns NoWrap d stays = refl
sign_keeps columns Wrap d stays = refl

pub signs_keep : (columns : ℕ → ℕ) (signs : List Sign) (d : Display) → Stay signs → (after_signs columns signs d).main ≡ d.main
signs_keep columns [] d stay = refl
signs_keep columns (s ∷ signs) d stay = signs_keep columns signs (after_sign columns s d) stay.1 ∙ sign_keeps columns s d stay.0

-- what is left of a display that keeps this grid and cursor under the alternate screen
pub left_again : (columns : ℕ → ℕ) (d e : Display) → d.main ≡ None → e.main ≡ Some (d.grid, d.cursor)
    → after_signs columns leave e ≡ record d { shows_cursor = true; wraps = true }
left_again columns d e none kept =
    let blank = after_signs columns (SetStyle plain ∷ EraseScreen ∷ []) e in
    λ i. record {
      grid = (unwrap_or (kept i) (blank.grid, blank.cursor)).0;
      cursor = (unwrap_or (kept i) (blank.grid, blank.cursor)).1;
      main = sym none i;
      shows_cursor = true;
      wraps = true;
    }

restored : (columns : ℕ → ℕ) (d : Display) (signs : List Sign) → Stay signs → d.main ≡ None
    → after_signs columns (enter ++ (signs ++ leave)) d ≡ record d { shows_cursor = true; wraps = true }
restored columns d signs stay none =
    let start = after_signs columns enter d in
    let kept : start.main ≡ Some (d.grid, d.cursor) = ap (λ (m : Kept). Some (unwrap_or m (d.grid, d.cursor))) none in
    after_append columns signs leave start ∙ left_again columns d (after_signs columns signs start) none (signs_keep columns signs start stay ∙ kept)

pub restores : (columns : ℕ → ℕ) → Restores columns
restores columns d signs stay none = restored columns d signs (recursion_from_All StaysOnScreen signs stay) none

pub restores_frames : (columns : ℕ → ℕ) → RestoresFrames columns
restores_frames columns b d grids none = restored columns d (frames b grids) (frames_stay b grids) none

-- ---- what the frames show

pub draws_frame : (columns : ℕ → ℕ) → columns 32 ≡ 1 → (b : Buffers) (d : Display) → Agrees columns b d → Fits columns d b.back → (after_signs columns (frame b) d).grid ≡ b.back
draws_frame columns space b d agrees fits =
    let Shows : Bool → Type 0 = λ t. (after_signs columns (cond t (difference b.front b.back) (first_frame b.back)) d).grid ≡ b.back in
    let go : (t : Bool) → follows b ≡ t → Shows t =
    λ t. elim t as (λ t. follows b ≡ t → Shows t) [
      | true ↦ λ is.
          let shown = agrees (and_parts b.is_shown (have_one_size b.front b.back) is).0 in
          ap (λ (g : Sheet). (after_signs columns (difference g b.back) d).grid) (sym shown.1)
          ∙ draws_next columns space b.back d (subst (IsProperSheet columns) (sym shown.1) shown.0) fits.proper fits.size
      | false ↦ λ is. draws_first columns space b.back d fits.proper fits.size
    ] in
    go (follows b) refl

-- grids of a display's size are of that of another one of this size
pub fits_more : (columns : ℕ → ℕ) (d e : Display) (g : Sheet) → e.grid.width ≡ d.grid.width → e.grid.height ≡ d.grid.height → Fits columns d g → Fits columns e g
fits_more columns d e g width height fits = record { proper = fits.proper; size = record { width = width ∙ fits.size.width; height = height ∙ fits.size.height } }

fit_more : (columns : ℕ → ℕ) (d e : Display) (grids : List Sheet) → e.grid.width ≡ d.grid.width → e.grid.height ≡ d.grid.height → AllByRecursion (Fits columns d) grids
    → AllByRecursion (Fits columns e) grids
fit_more columns d e [] width height fit = tt
fit_more columns d e (g ∷ grids) width height fit = (fits_more columns d e g width height fit.0, fit_more columns d e grids width height fit.1)

pub after_grid : (columns : ℕ → ℕ) (a b : List Sign) (d : Display) → (after_signs columns (a ++ b) d).grid ≡ (after_signs columns b (after_signs columns a d)).grid
after_grid columns a b d = ap (λ (e : Display). e.grid) (after_append columns a b d)

drawn_frames : (columns : ℕ → ℕ) → columns 32 ≡ 1 → (b : Buffers) (d : Display) (grids : List Sheet) (last : Sheet) → Agrees columns b d
    → AllByRecursion (Fits columns d) grids → Fits columns d last → (after_signs columns (frames b (grids ++ last ∷ [])) d).grid ≡ last
drawn_frames columns space b d [] last agrees fit fits =
    let next = record b { back = last } in
    after_grid columns (frame next) [] d ∙ draws_frame columns space next d agrees fits
drawn_frames columns space b d (g ∷ grids) last agrees fit fits =
    let next = record b { back = g } in
    let e = after_signs columns (frame next) d in
    let shown : e.grid ≡ g = draws_frame columns space next d agrees fit.0 in
    let width : e.grid.width ≡ d.grid.width = ap (λ (s : Sheet). s.width) shown ∙ sym fit.0.size.width in
    let height : e.grid.height ≡ d.grid.height = ap (λ (s : Sheet). s.height) shown ∙ sym fit.0.size.height in
    after_grid columns (frame next) (frames (drawn next) (grids ++ last ∷ [])) d
    ∙ drawn_frames columns space (drawn next) e grids last (λ _. (fit.0.proper, shown)) (fit_more columns d e grids width height fit.1) (fits_more columns d e last width height fits)

pub draws_frames : (columns : ℕ → ℕ) → columns 32 ≡ 1 → DrawsFrames columns
draws_frames columns space b d grids last agrees fit fits = drawn_frames columns space b d grids last agrees (recursion_from_All (Fits columns d) grids fit) fits

pub draws_entered : (columns : ℕ → ℕ) → columns 32 ≡ 1 → DrawsEntered columns
draws_entered columns space b d grids last fit fits =
    let start = after_signs columns enter d in
    drawn_frames columns space (unknown b) start grids last (λ is. cc) (fit_more columns d start grids refl refl (recursion_from_All (Fits columns d) grids fit))
    (fits_more columns d start last refl refl fits)
