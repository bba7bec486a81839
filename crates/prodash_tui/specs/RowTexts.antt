-- What a progress pane says of rows, as bytes.
use Prim.Native.Char.{code}
use Rattle.std.specs.Prelude.{ℕ, min, ◌+◌, ◌-◌, nat_lt, Bool, true, false, ◌&&◌, List, [], ◌++◌, codes, length, map, take, slice_index_or, Option, Some, None, encode_utf8_all, if◌then◌else◌}
use Rattle.std.specs.Char.{encode_utf8}
use Rattle.std.specs.Fmt.{decimal}
use Rattle.std.specs.Option.{option_map_or}
use Rattle.prodash_base.specs.Displays.{all_text, amount}
use Rattle.prodash_base.specs.Kinds.{quantity_shown}
use Rattle.prodash_base.specs.Moments.{seconds_of}
use Rattle.prodash_base.specs.Numbers.{same_numbers}
use Rattle.prodash_base.specs.Path.{Path}
use Rattle.prodash_base.specs.Rows.{Phase, Blocked, Halted, Running, RowProgress, PathRow, unknown_id}
use Rattle.prodash_base.specs.Times.{seconds_text}
use Rattle.prodash_base.specs.Units.{Measure}
use Rattle.prodash_base.specs.declared.unit.display.Throughput.{Throughput}
use Rattle.prodash_core.specs.Prefixes.{prefix_at}
use Rattle.prodash_line.specs.ProgressRows.{fraction_of}
use Rattle.prodash_tui.specs.Panes.{vertical_line}
use Rattle.prodash_tui.specs.Texts.{block_width}

-- a row that says nothing
abbrev pub no_row : PathRow
no_row = ([], record { name = []; id = unknown_id; progress = None })

-- row i
abbrev pub row_at : List PathRow → ℕ → PathRow
row_at rows i = slice_index_or rows i no_row

-- has a row progress? one without is a group
abbrev pub has_progress : Option RowProgress → Bool
has_progress None = false
has_progress (Some p) = true

-- is a path q the path p, or below it?
abbrev pub is_from : Path → Path → Bool
is_from p q = same_numbers p (take (length p) q)

-- has row i a child with progress? it is then the next row
abbrev pub has_child : List PathRow → ℕ → Bool
has_child rows i = has_progress (row_at rows (i + 1)).1.progress && is_from (row_at rows i).0 (row_at rows (i + 1)).0

-- the branches that lead to row i
abbrev pub branches_of : List PathRow → ℕ → List ℕ
branches_of rows i = option_map_or encode_utf8_all (prefix_at (map (λ row. row.0) rows) i) []

-- row i of the tree: the branches that lead to it, and its name
abbrev pub tree_text : List PathRow → ℕ → List ℕ
tree_text rows i = branches_of rows i ++ (codes " " ++ (row_at rows i).1.name)

-- its columns, and one behind it
abbrev pub tree_row_columns : List PathRow → ℕ → ℕ
tree_row_columns rows i = min (block_width (tree_text rows i) + 1) 65535

-- a progress in a unit, with its throughput if the unit shows one, or as a fraction if there is no unit
abbrev pub amount_in : Option Measure → Option Throughput → RowProgress → List ℕ
amount_in None rate p = fraction_of p.counter p.bound
amount_in (Some unit) rate p = all_text (quantity_shown unit.quantity) unit.mode (amount p.counter p.bound rate)

-- a progress with this throughput, in its unit if it has one
abbrev pub amount_text : Option Throughput → RowProgress → List ℕ
amount_text rate p = amount_in p.unit rate p

-- how long it takes from a moment until a task is expected to go on; nothing if that isn't known, or past
abbrev pub until_text : ℕ → Option ℕ → List ℕ → List ℕ
until_text at None goes_on = []
until_text at (Some eta) goes_on =
    if nat_lt at eta
    then codes " " ++ (encode_utf8 (code "→") ++ (codes " " ++ (seconds_text (seconds_of (eta - at)) ++ (codes " to " ++ goes_on))))
    else []

-- why a task can't go on at a moment, and how long it takes until it can
abbrev pub waits_text : ℕ → Phase → List ℕ
waits_text at (Blocked reason eta) = codes " [" ++ (reason ++ (codes "]" ++ until_text at eta (codes "unblock")))
waits_text at (Halted reason eta) = codes " [" ++ (reason ++ (codes "]" ++ until_text at eta (codes "continue")))
waits_text at Running = []

-- what is said of a progress with this throughput at a moment
abbrev pub label_text : ℕ → Option Throughput → RowProgress → List ℕ
label_text at rate p = codes " " ++ (amount_text rate p ++ waits_text at p.phase)

-- the columns of a progress without its throughput and its state; 0 of a group
abbrev pub amount_columns : Option RowProgress → ℕ
amount_columns None = 0
amount_columns (Some p) = block_width (amount_text None p)

-- the title of a group
abbrev pub title_text : List ℕ → List ℕ
title_text name = codes " " ++ (name ++ codes " ")

-- the vertical line, unless there is no column of the tree before it
abbrev pub line_behind : ℕ → List ℕ
line_behind width = if nat_lt 0 width then vertical_line else []

-- how many rows are skipped
abbrev pub skipped_text : ℕ → List ℕ
skipped_text above = codes " " ++ (encode_utf8 (code "…") ++ (decimal above ++ codes " skipped and "))

-- how many rows are hidden, above and below those that are shown, behind a tree of so many columns
abbrev pub hidden_text : ℕ → ℕ → ℕ → List ℕ
hidden_text width above below = line_behind width ++ (skipped_text above ++ (decimal below ++ codes " more"))

-- the keys that scroll
abbrev pub keys_text : List ℕ
keys_text = encode_utf8_all (codes "⇊ = d|↓ = j|⇈ = u|↑ = k ")
