-- The definitions of bars, texts over them and spinners, computed.
use Rattle.std.proofs.Common.{◌≡◌, ℕ, [], ◌∷◌, ◌++◌, map, refl}
use Rattle.std.specs.Prelude.{None, Some, codes}
use Rattle.unicode_width.proofs.Computing.{unicode_width}
use Rattle.prodash_base.specs.Rows.{Phase, Blocked, Halted, Running, RowProgress}
use Rattle.prodash_core.specs.declared.render.tui.event.Rect.{Rect}
use Rattle.prodash_tui.specs.declared.cell.Cell.TheVariants.{Half}
use Rattle.prodash_tui.specs.declared.style.Color.TheVariants.{Red, Green, Yellow, White, LightRed}
use Rattle.prodash_tui.specs.Bars.{bar_color, bar_columns, black_on, block, eighths, inked, spinner_of, with_bar, with_spinner, with_text_across}
use Rattle.prodash_tui.specs.Cells.{blank_cells, cell_of, on_background, plain}
use Rattle.prodash_tui.specs.Grids.{blank_sheet, with_background, with_text}

abbrev rect : ℕ → ℕ → ℕ → ℕ → Rect
rect x y width height = record { x = x; y = y; width = width; height = height }

-- ---- bars

-- ten cells for 1 of 3: three are filled, and of the next one a third, which is three eighths
pub third : eighths 10 1 3 ≡ 3
third = refl

-- a sixteenth of a cell is half of an eighth, and counts as one; less than that counts as none
pub half_of_eighth : eighths 1 1 16 ≡ 1
half_of_eighth = refl

pub less_than_half : eighths 1 1 17 ≡ 0
less_than_half = refl

-- all eight, although the bound isn't reached
pub almost : eighths 1 31 32 ≡ 8
almost = refl

pub blocks : map block (0 ∷ 1 ∷ 2 ∷ 3 ∷ 4 ∷ 5 ∷ 6 ∷ 7 ∷ 8 ∷ []) ≡ codes " ▏▎▍▌▋▊▉█"
blocks = refl

-- three cells and the one behind them, all of them at the bound, past it and without one, and one before the first step
pub some_columns : bar_columns 10 1 3 ≡ 4
some_columns = refl

pub all_columns : map (λ (step : ℕ). bar_columns 10 step 3) (3 ∷ 4 ∷ []) ≡ 10 ∷ 10 ∷ []
all_columns = refl

pub no_bound : bar_columns 10 0 0 ≡ 10
no_bound = refl

pub first_column : bar_columns 10 0 3 ≡ 1
first_column = refl

pub bar : (with_bar (rect 1 0 10 1) 1 3 Yellow (blank_sheet 12 1)).rows
    ≡ (blank_cells 1 ++ (map (cell_of (inked Yellow)) (codes "███▍") ++ blank_cells 7)) ∷ []
unfolding unicode_width
bar = refl

pub full_bar : (with_bar (rect 1 0 3 1) 5 4 Green (blank_sheet 5 1)).rows
    ≡ (blank_cells 1 ++ map (cell_of (inked Green)) (codes "███") ++ blank_cells 1) ∷ []
unfolding unicode_width
full_bar = refl

-- ---- texts over bars

-- `abcd` over two columns of a bar
pub across : (with_text_across (rect 0 0 6 1) 2 (black_on Green) plain (codes "abcd") (blank_sheet 6 1)).rows
    ≡ (map (cell_of (black_on Green)) (codes "ab") ++ map (cell_of plain) (codes "cd") ++ blank_cells 2) ∷ []
unfolding unicode_width
across = refl

-- a wide character of which one column is behind those has the style of the rest
pub across_wide : (with_text_across (rect 0 0 4 1) 2 (black_on Green) plain (97 ∷ 0xE6 ∷ 0x97 ∷ 0xA5 ∷ 98 ∷ []) (blank_sheet 4 1)).rows
    ≡ (cell_of (black_on Green) 97 ∷ cell_of plain 0x65E5 ∷ Half ∷ cell_of plain 98 ∷ []) ∷ []
unfolding unicode_width
across_wide = refl

-- ---- spinners

pub in_middle : spinner_of (rect 1 0 10 1) 13 ≡ rect 4 0 5 1
in_middle = refl

-- at the right edge there are fewer columns
pub at_edge : spinner_of (rect 1 0 10 1) 8 ≡ rect 9 0 2 1
at_edge = refl

pub no_columns : spinner_of (rect 1 0 0 1) 8 ≡ rect 1 0 0 1
no_columns = refl

pub spinner : (with_spinner (rect 0 0 8 1) 2 White (with_text (rect 0 0 8 1) plain (codes "abc") (blank_sheet 8 1))).rows
    ≡ (map (cell_of plain) (codes "ab") ++ map (λ (c : ℕ). on_background White (cell_of plain c)) (codes "c    ") ++ blank_cells 1) ∷ []
unfolding unicode_width
spinner = refl

-- the second half of a wide character has no background of its own, and nothing outside the rectangle changes
pub background : (with_background (rect 1 1 2 9) Red (with_text (rect 0 1 3 1) plain (0xE6 ∷ 0x97 ∷ 0xA5 ∷ 97 ∷ []) (blank_sheet 4 2))).rows
    ≡ blank_cells 4 ∷ (cell_of plain 0x65E5 ∷ Half ∷ on_background Red (cell_of plain 97) ∷ blank_cells 1) ∷ []
unfolding unicode_width
background = refl

-- ---- colours

abbrev progress : ℕ → Phase → RowProgress
progress step phase = record { counter = step; bound = Some 100; unit = None; phase = phase }

pub four_fifths : bar_color (progress 80 Running) 100 ≡ Green
four_fifths = refl

pub less : bar_color (progress 79 Running) 100 ≡ Yellow
less = refl

pub blocked : bar_color (progress 80 (Blocked [] None)) 100 ≡ Red
blocked = refl

pub halted : bar_color (progress 80 (Halted [] None)) 100 ≡ LightRed
halted = refl
