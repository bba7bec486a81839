-- The headline of a dashboard.
use Rattle.std.specs.Prelude.{◌≡◌, ℕ, ◌+◌, ◌/◌, Bool, true, false, nat_lt, List, [], ◌++◌, length, filter, codes, encode_utf8_all, Option, Some, None, if◌then◌else◌}
use Rattle.std.specs.Fmt.{decimal}
use Rattle.prodash_base.specs.Rows.{Blocked, Halted, Running, RowProgress, PathRow, rows_of}
use Rattle.prodash_base.specs.declared.progress.Row.{Row}
use Rattle.prodash_core.specs.declared.render.tui.event.Rect.{Rect}
use Rattle.prodash_core.specs.declared.render.tui.state.InterruptMode.{InterruptMode}
use Rattle.prodash_core.specs.declared.render.tui.state.InterruptMode.TheVariants.{Instantly, Deferred}
use Rattle.prodash_tui.specs.Grids.{Sheet, with_shortened}
use Rattle.prodash_tui.specs.Panes.{bold}
use Rattle.prodash_tui.specs.Rects.{snap_to_right}
use Rattle.prodash_tui.specs.Texts.{block_width}

-- what `q` does
abbrev pub interrupt_text : InterruptMode → List ℕ
interrupt_text Instantly = codes "'q' or CTRL+c to quit"
interrupt_text (Deferred true) = codes "interrupt requested - please wait"
interrupt_text (Deferred false) = codes "cannot interrupt current operation"

-- how often a frame is drawn, and when this one is, if there is more than a second between frames
abbrev pub interval_text : ℕ → List ℕ → List ℕ
interval_text ns now =
    if nat_lt 1000000000 ns then codes " Every " ++ (decimal (ns / 1000000000) ++ (encode_utf8_all (codes "s → ") ++ now)) else []

-- a number after spaces that bring it to three columns
abbrev pub in_three : ℕ → List ℕ
in_three n = (if nat_lt n 10 then codes "  " else if nat_lt n 100 then codes " " else []) ++ decimal n

-- does a task run?
abbrev pub runs : Option RowProgress → Bool
runs None = false
runs (Some p) = elim p.phase [ Running ↦ true | Blocked reason eta ↦ false | Halted reason eta ↦ false ]

-- does it wait?
abbrev pub waits : Option RowProgress → Bool
waits None = false
waits (Some p) = elim p.phase [ Running ↦ false | Blocked reason eta ↦ true | Halted reason eta ↦ true ]

-- has it no progress of its own?
abbrev pub is_group : Option RowProgress → Bool
is_group None = true
is_group (Some p) = false

-- how many rows pass a test of their progress
abbrev pub how_many : (Option RowProgress → Bool) → List PathRow → ℕ
how_many test rows = length (filter (λ (row : PathRow). test row.1.progress) rows)

-- how many tasks run, wait, and are groups, and how many there are, as a text
abbrev pub count_words : ℕ → ℕ → ℕ → ℕ → List ℕ
count_words running waiting groups all =
    in_three running ++ (codes " running + " ++ (in_three waiting ++ (codes " blocked + " ++ (in_three groups ++ (codes " groups = " ++ decimal all)))))

-- these numbers of rows
abbrev pub counts_text : List PathRow → List ℕ
counts_text rows = count_words (how_many runs rows) (how_many waits rows) (how_many is_group rows) (length rows)

-- the headline: what `q` does, how often a frame is drawn, and the counts
abbrev pub headline_text : InterruptMode → ℕ → List ℕ → List PathRow → List ℕ
headline_text mode ns now rows =
    codes " " ++ (interrupt_text mode ++ (codes " " ++ (interval_text ns now ++ (codes " " ++ (counts_text rows ++ codes " ")))))

-- a text in bold at the right end of a rectangle's first row, before a column that stays free
abbrev pub with_headline : Rect → List ℕ → Sheet → Sheet
with_headline area text g = with_shortened (snap_to_right area (block_width text + 1)) bold text g

-- the headline of these rows is drawn
abbrev pub DrawsHeadline : Rect → InterruptMode → ℕ → List ℕ → List Row → Sheet → Sheet → Type 0
DrawsHeadline area mode ns now rows old new = new ≡ with_headline area (headline_text mode ns now (rows_of rows)) old
