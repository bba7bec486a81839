-- Throughputs in a progress pane, computed.
use Rattle.std.proofs.Common.{◌≡◌, ℕ, List, [], ◌∷◌, ◌++◌, map, refl}
use Rattle.std.specs.Prelude.{None, Some, Option, true, false, codes}
use Rattle.std.specs.FinMap.{get-insert, get-empty}
use Rattle.std.specs.Fmt.{digits}
use Rattle.std.proofs.Math.Utf8.{encode}
use Rattle.std.proofs.lemmas.Cmp.{nat_list_cmp_total}
use Rattle.unicode_width.proofs.Computing.{unicode_width}
use Rattle.prodash_base.proofs.PathMaps.{get-retain_at}
use Rattle.prodash_base.specs.Kinds.{Label}
use Rattle.prodash_base.specs.Path.{Path, path_cmp}
use Rattle.prodash_base.specs.Rows.{PathRow, RowProgress, Blocked, Running, unknown_id}
use Rattle.prodash_base.specs.Trackers.{Tracker, in_one_second, new_tracker}
use Rattle.prodash_base.specs.Units.{Measure}
use Rattle.prodash_base.specs.declared.throughput.sample.Observation.{Observation}
use Rattle.prodash_base.specs.declared.unit.display.Mode.{Mode}
use Rattle.prodash_base.specs.declared.unit.display.Throughput.{Throughput}
use Rattle.prodash_base.specs.declared.unit.display.Location.TheVariants.{AfterUnit}
use Rattle.prodash_tui.specs.declared.cell.Cell.{Cell}
use Rattle.prodash_tui.specs.declared.draw.progress.lines.Lines.{Lines}
use Rattle.prodash_tui.specs.declared.style.Color.TheVariants.{Yellow}
use Rattle.prodash_tui.specs.declared.style.Style.{Style}
use Rattle.prodash_tui.specs.Bars.{black_on}
use Rattle.prodash_tui.specs.Cells.{blank_cells, cell_of, plain}
use Rattle.prodash_tui.specs.Grids.{blank_sheet}
use Rattle.prodash_tui.specs.ProgressPanes.{with_row}
use Rattle.prodash_tui.specs.Rates.{Rates, rate_at, rates_by, tracker_after}
use Rattle.prodash_tui.specs.RowTexts.{amount_columns, label_text}

-- a change in one second
abbrev rate : ℕ → Option Throughput
rate change = Some (in_one_second change)

-- the label `i`, with this mode
abbrev items : Option Mode → Option Measure
items mode = Some (record { quantity = Label (codes "i"); mode = mode })

-- a mode that shows a throughput behind the unit
abbrev with_throughput : Option Mode
with_throughput = Some (record { location = AfterUnit; percentage = false; throughput = true })

abbrev running : ℕ → Option Measure → RowProgress
running step unit = record { counter = step; bound = Some 10; unit = unit; phase = Running }

abbrev row : Path → Option RowProgress → PathRow
row path progress = (path, record { name = codes "t"; id = unknown_id; progress = progress })

abbrev text : Style → List ℕ → List Cell
text style chars = map (cell_of style) chars

-- ---- labels

pub label : label_text 0 (rate 5) (running 3 (items with_throughput)) ≡ codes " 3/10 i |5/s|"
unfolding digits
label = refl

-- before the reason of a task that is blocked
pub blocked : label_text 0 (rate 5) (record (running 3 (items with_throughput)) { phase = Blocked (codes "lock") None }) ≡ codes " 3/10 i |5/s| [lock]"
unfolding digits
blocked = refl

-- while none is known, of a unit that shows none, and without a unit
pub unknown : label_text 0 None (running 3 (items with_throughput)) ≡ codes " 3/10 i"
unfolding digits
unknown = refl

pub not_shown : label_text 0 (rate 5) (running 3 (items None)) ≡ codes " 3/10 i"
unfolding digits
not_shown = refl

pub no_unit : label_text 0 (rate 5) (running 3 None) ≡ codes " 3/10"
unfolding digits
no_unit = refl

-- spinners begin behind the widest amount, which has no throughput
pub columns : amount_columns (Some (running 3 (items with_throughput))) ≡ 6
unfolding unicode_width digits
columns = refl

-- ---- rows

-- a group with a task
abbrev rows : List PathRow
rows = row (0 ∷ []) None ∷ row (0 ∷ 0 ∷ []) (Some (running 3 (items with_throughput))) ∷ []

abbrev lines : Lines
lines = record { area = record { x = 0; y = 0; width = 20; height = 2 }; offset = 0; amount_columns = 6; at = 0 }

-- a row has its own throughput
pub own : (with_row rows (None ∷ rate 5 ∷ []) lines 1 (blank_sheet 20 2)).rows
    ≡ blank_cells 20 ∷ (text plain (codes "│ └") ++ (text (black_on Yellow) (codes " 3/10 ") ++ (text plain (codes "i |5/s|") ++ blank_cells 4))) ∷ []
unfolding unicode_width encode digits
own = refl

-- and not that of another one
pub other : (with_row rows (rate 5 ∷ None ∷ []) lines 1 (blank_sheet 20 2)).rows
    ≡ blank_cells 20 ∷ (text plain (codes "│ └") ++ (text (black_on Yellow) (codes " 3/10 ") ++ (text plain (codes "i") ++ blank_cells 10))) ∷ []
unfolding unicode_width encode digits
other = refl

-- also if it is scrolled to the first line
pub scrolled : (with_row rows (None ∷ rate 5 ∷ []) (record lines { offset = 1 }) 0 (blank_sheet 20 1)).rows
    ≡ (text plain (codes "│ └") ++ (text (black_on Yellow) (codes " 3/10 ") ++ (text plain (codes "i |5/s|") ++ blank_cells 4))) ∷ []
unfolding unicode_width encode digits
scrolled = refl

-- ---- trackers

-- without a tracker no row has a throughput, and none is made
pub no_rates : (at i : ℕ) (rows : List PathRow) → rate_at (rates_by None at rows) i ≡ None
no_rates at i _ = refl

pub no_tracker : (at : ℕ) (rows : List PathRow) → tracker_after None at rows ≡ None
no_tracker at _ = refl

-- the throughputs of frames, each at a moment
abbrev shown : Option Tracker → List (ℕ × List PathRow) → List Rates
shown t [] = []
shown t (frame ∷ frames) = rates_by t frame.0 frame.1 ∷ shown (tracker_after t frame.0 frame.1) frames

-- a task at this step
abbrev task : ℕ → List PathRow
task step = row (0 ∷ []) (Some (running step None)) ∷ []

-- frames every 400 milliseconds: the second one is the first that knows how long the one before is ago, and in 1.2 seconds from then on four steps are taken
pub every : shown (Some new_tracker) ((0, task 0) ∷ (400000000, task 1) ∷ (800000000, task 2) ∷ (1200000000, task 3) ∷ (1600000000, task 5) ∷ [])
    ≡ (None ∷ []) ∷ (None ∷ []) ∷ (None ∷ []) ∷ (None ∷ []) ∷ (rate 3 ∷ []) ∷ []
every = simp (get-insert {X = List Observation} nat_list_cmp_total, get-empty {X = List Observation} path_cmp, get-retain_at {Y = List Observation})
