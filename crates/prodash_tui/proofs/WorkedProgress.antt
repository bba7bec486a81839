-- The definitions of the progress pane, computed.
use Rattle.std.proofs.Common.{◌≡◌, ℕ, List, [], ◌∷◌, ◌++◌, map, refl}
use Rattle.std.specs.Prelude.{None, Some, Option, true, false, codes, replicate}
use Rattle.std.specs.Fmt.{digits}
use Rattle.std.proofs.Math.Utf8.{encode}
use Rattle.unicode_width.proofs.Computing.{unicode_width}
use Rattle.prodash_base.specs.Numerals.{last_digits}
use Rattle.prodash_base.specs.Path.{Path}
use Rattle.prodash_base.specs.Rows.{Blocked, Halted, Running, PathRow, RowProgress, unknown_id}
use Rattle.prodash_core.specs.declared.render.tui.event.Rect.{Rect}
use Rattle.prodash_tui.specs.declared.cell.Cell.{Cell}
use Rattle.prodash_tui.specs.declared.draw.progress.lines.Lines.{Lines}
use Rattle.prodash_tui.specs.declared.style.Color.TheVariants.{Red, Green, Yellow, White}
use Rattle.prodash_tui.specs.declared.style.Style.{Style}
use Rattle.prodash_tui.specs.Bars.{black_on}
use Rattle.prodash_tui.specs.Cells.{blank_cells, cell_of, on_background, plain}
use Rattle.prodash_tui.specs.Grids.{blank_sheet}
use Rattle.prodash_tui.specs.ProgressPanes.{hidden, mean_share, rows_area, rows_offset, tree_columns, tree_line, tree_width, with_overflow, with_row, with_tree_row}
use Rattle.prodash_tui.specs.Panes.{bold}
use Rattle.prodash_tui.specs.RowTexts.{has_child, label_text, skipped_text, waits_text}

abbrev rect : ℕ → ℕ → ℕ → ℕ → Rect
rect x y width height = record { x = x; y = y; width = width; height = height }

abbrev row : Path → List ℕ → Option RowProgress → PathRow
row path name progress = (path, record { name = name; id = unknown_id; progress = progress })

abbrev running : ℕ → Option ℕ → RowProgress
running step bound = record { counter = step; bound = bound; unit = None; phase = Running }

-- a group with a task that has a bound and one that has none
abbrev rows : List PathRow
rows =
    row (0 ∷ []) (codes "a") None
    ∷ row (0 ∷ 0 ∷ []) (codes "b") (Some (running 3 (Some 10)))
    ∷ row (0 ∷ 1 ∷ []) (codes "c") (Some (running 2 None))
    ∷ []

abbrev text : Style → List ℕ → List Cell
text style chars = map (cell_of style) chars

-- ---- texts

-- a task that is blocked for 90 seconds, one that is halted, and one that should go on by now
pub blocked : waits_text 1000000000 (Blocked (codes "locked") (Some 91000000000)) ≡ codes " [locked] " ++ (0xE2 ∷ 0x86 ∷ 0x92 ∷ codes " 1m30s to unblock")
unfolding encode digits last_digits
blocked = refl

pub halted : waits_text 0 (Halted (codes "input") None) ≡ codes " [input]"
halted = refl

pub late : waits_text 9 (Halted (codes "input") (Some 9)) ≡ codes " [input]"
late = refl

pub label : label_text 0 None (running 3 (Some 10)) ≡ codes " 3/10"
unfolding digits
label = refl

pub skipped : skipped_text 12 ≡ 32 ∷ 0xE2 ∷ 0x80 ∷ 0xA6 ∷ codes "12 skipped and "
unfolding encode digits
skipped = refl

-- ---- rows

pub children : map (has_child rows) (0 ∷ 1 ∷ 2 ∷ []) ≡ true ∷ false ∷ false ∷ []
children = refl

abbrev lines : Lines
lines = record { area = rect 0 0 12 3; offset = 0; amount_columns = 4; at = 0 }

-- a group: a line of three columns fewer than the pane, and the title over it
pub group : (with_row rows [] lines 0 (blank_sheet 12 3)).rows
    ≡ (text plain (codes "├") ++ (text bold (codes " a ") ++ (text plain (replicate 7 0x2500) ++ blank_cells 1))) ∷ blank_cells 12 ∷ blank_cells 12 ∷ []
unfolding unicode_width encode
group = refl

-- a bar of two cells and six eighths, and the label over it
pub bounded : (with_row rows [] lines 1 (blank_sheet 12 3)).rows
    ≡ blank_cells 12 ∷ (text plain (codes "│ ├") ++ (text (black_on Yellow) (codes " 3/") ++ (text plain (codes "10") ++ blank_cells 4))) ∷ blank_cells 12 ∷ []
unfolding unicode_width encode digits
bounded = refl

-- a label, and a spinner that is four columns behind the widest amount
pub unbounded : (with_row rows [] lines 2 (blank_sheet 12 3)).rows
    ≡ blank_cells 12 ∷ blank_cells 12 ∷ (text plain (codes "│ └ 2") ++ (blank_cells 3 ++ map (on_background White) (blank_cells 4))) ∷ []
unfolding unicode_width encode digits
unbounded = refl

-- rows of the tree, which begins a column to the left: a group, and a task whose name has no room
pub tree_group : (with_tree_row rows 0 (tree_line (rect 1 0 9 3) 0) (blank_sheet 9 1)).rows ≡ (text bold (codes "├ a") ++ blank_cells 6) ∷ []
unfolding unicode_width encode
tree_group = refl

pub tree_task : (with_tree_row rows 1 (tree_line (rect 1 0 5 3) 0) (blank_sheet 9 1)).rows ≡ (text plain (codes "│ ├…") ++ blank_cells 5) ∷ []
unfolding unicode_width encode
tree_task = refl

-- the widest row has five columns, and one behind it; in as many columns it isn't shortened
pub tree_known : tree_columns rows (rect 1 0 20 3) 0 ≡ 6
unfolding unicode_width encode
tree_known = refl

pub tree_fits : (with_tree_row rows 1 (tree_line (rect 1 0 6 3) 0) (blank_sheet 9 1)).rows ≡ (text plain (codes "│ ├ b") ++ blank_cells 4) ∷ []
unfolding unicode_width encode
tree_fits = refl

-- ---- the pane

-- a third of 60 columns has room for a tree, and one of 59 hasn't
pub third : tree_width (rect 0 0 60 3) 0 ≡ 20
third = refl

pub too_narrow : tree_width (rect 0 0 59 3) 31 ≡ 0
too_narrow = refl

pub known : tree_width (rect 0 0 60 3) 29 ≡ 29
known = refl

-- but at most half of the columns
pub at_most_half : tree_width (rect 0 0 61 3) 31 ≡ 30
at_most_half = refl

-- of three rows one is shown on two lines; it is the last one if they are scrolled as far as they can be
pub two_lines : rows_area rows (rect 0 0 60 2) ≡ rect 0 0 60 1
two_lines = refl

pub furthest : rows_offset rows (rect 0 0 60 2) 7 ≡ 2
furthest = refl

-- all are shown on three
pub three_lines : rows_area rows (rect 0 0 60 3) ≡ rect 0 0 60 3
three_lines = refl

pub none_skipped : rows_offset rows (rect 0 0 60 3) 7 ≡ 0
none_skipped = refl

-- the first and the last row aren't shown; of the three, three tenths of one are done
pub first_and_last : hidden 1 1 rows ≡ row (0 ∷ []) (codes "a") None ∷ row (0 ∷ 1 ∷ []) (codes "c") (Some (running 2 None)) ∷ []
first_and_last = refl

pub mean : mean_share rows ≡ 100000
mean = refl

pub mean_of_none : mean_share [] ≡ 0
mean_of_none = refl

-- half of the two rows that aren't shown is done: a bar of half of the columns, and red behind it
abbrev halves : List PathRow
halves = row (0 ∷ []) [] (Some (running 1 (Some 2))) ∷ row (1 ∷ []) [] None ∷ row (2 ∷ []) [] (Some (running 3 (Some 6))) ∷ []

pub overflow : (with_overflow halves 1 1 0 (rect 0 0 6 1) (blank_sheet 6 1)).rows ≡ (text (black_on Green) (codes "⇊ = ") ++ text (black_on Red) (codes "d|")) ∷ []
unfolding unicode_width encode digits
overflow = refl
