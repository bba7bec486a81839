-- Lines of rows that are kept from one frame to the next.
use Rattle.std.specs.Prelude.{◌≡◌, ◌+◌, ◌-◌, ℕ, Bool, List, ◌++◌, length, Option, Some, None, slice_get}
use Rattle.std.specs.List.{All}
use Rattle.std.specs.Option.{option_eq, option_map}
use Rattle.prodash_base.specs.Rows.{PathRow, progress_of, rows_of, same_progress}
use Rattle.prodash_base.specs.Steps.{with_steps}
use Rattle.prodash_base.specs.Units.{measure_of, same_measure}
use Rattle.prodash_base.specs.declared.progress.Value.{Value}
use Rattle.prodash_base.specs.declared.unit.display.Throughput.{Throughput}
use Rattle.prodash_base.specs.declared.unit.units.Unit.{Unit as TaskUnit}
use Rattle.prodash_line.specs.declared.render.line.draw.input.Options.{Options}
use Rattle.prodash_line.specs.declared.render.line.draw.latest_rows.KeptLines.{KeptLines}
use Rattle.prodash_line.specs.declared.render.line.draw.latest_rows.LineSize.{LineSize}
use Rattle.prodash_line.specs.declared.render.line.draw.latest_rows.RowLine.{RowLine}
use Rattle.prodash_line.specs.declared.render.line.draw.latest_rows.RowsBefore.{RowsBefore}
use Rattle.prodash_line.specs.DrawnLines.{layout_of}
use Rattle.prodash_line.specs.Frames.{row_start}
use Rattle.prodash_line.specs.Lines.{Line, columns_of}
use Rattle.prodash_line.specs.ProgressRows.{DrawnRow, drawn_row_line, midpoint_of, times_at}
use Rattle.prodash_line.specs.Signs.{spelling}
use Rattle.prodash_line.specs.plumbing.OverwriteBytes.{row_end}
use Rattle.prodash_line.specs.plumbing.Writing.{line_bytes}

-- the line of a row that doesn't show its time
abbrev pub untimed_line : Options → ℕ → DrawnRow → Line
untimed_line options midpoint drawn = drawn_row_line options midpoint (times_at None 0) drawn

-- the bytes of a line on its row of the terminal, without what follows it
abbrev pub own_bytes : Options → Line → List ℕ
own_bytes options line = spelling (row_start (layout_of options)) ++ line_bytes line

-- these bytes are among others, from this index on
pub record IsAt (start : ℕ) (part whole : List ℕ) : Type 0 where
  pub before : List ℕ
  pub after : List ℕ
  pub joined : whole ≡ before ++ (part ++ after)
  pub begins : length before ≡ start

-- the line of a row is so large, and its values end there
pub record IsSizeOf (options : Options) (aligned : ℕ) (drawn : DrawnRow) (size : LineSize) : Type 0 where
  pub bytes : size.length ≡ length (own_bytes options (untimed_line options aligned drawn))
  pub width : size.width ≡ columns_of (untimed_line options aligned drawn)
  pub midpoint : size.midpoint ≡ midpoint_of options.defensive drawn

-- the size of a line that is kept
abbrev pub line_size : RowLine → LineSize
line_size line = record { length = line.length; width = line.width; midpoint = line.midpoint }

-- what is kept of a line: the index of its row, where it begins, and its size
abbrev pub kept_line : ℕ → ℕ → LineSize → RowLine
kept_line row start size = record { row = row; start = start; length = size.length; width = size.width; midpoint = size.midpoint }

-- it is the line of one of these rows without a throughput, among these bytes
pub record IsAmong (options : Options) (aligned : ℕ) (rows : List PathRow) (bytes : List ℕ) (line : RowLine) : Type 0 where
  pub row : PathRow
  pub found : slice_get rows line.row ≡ Some row
  pub size : IsSizeOf options aligned (row, None) (line_size line)
  pub place : IsAt line.start (own_bytes options (untimed_line options aligned (row, None))) bytes

-- each of them is
abbrev pub AreAmong : Options → ℕ → List PathRow → List ℕ → List RowLine → Type 0
AreAmong options midpoint rows bytes lines = All (IsAmong options midpoint rows bytes) lines

-- lines that are kept are those of these rows
abbrev pub AreKept : KeptLines → List PathRow → Type 0
AreKept kept rows = AreAmong kept.options kept.midpoint rows kept.bytes kept.lines.items

-- and whichever rows they are of, they are their lines with these options and this midpoint
abbrev pub MayBeCopied : Options → ℕ → KeptLines → Type 0
MayBeCopied options midpoint kept = (rows : List PathRow) → AreKept kept rows → AreAmong options midpoint rows kept.bytes kept.lines.items

-- the rows of an earlier frame: these, with the steps that they had
abbrev pub drawn_in : RowsBefore → List PathRow
drawn_in before = with_steps before.steps.now (rows_of before.rows.now)

-- if this row is at an index now, it was then
abbrev pub WasThere : RowsBefore → ℕ → PathRow → Type 0
WasThere before index row = slice_get (rows_of before.rows.now) index ≡ Some row → slice_get (drawn_in before) index ≡ Some row

-- the line of this row without a throughput is so large, and is among these bytes, from this index on
pub record IsPlaced (options : Options) (aligned : ℕ) (row : PathRow) (bytes : List ℕ) (start : ℕ) (large : LineSize) : Type 0 where
  pub size : IsSizeOf options aligned (row, None) large
  pub place : IsAt start (own_bytes options (untimed_line options aligned (row, None))) bytes

-- a line of an earlier frame is that of this row too, and begins there, with whichever options and midpoint it is that of its row
abbrev pub IsLineAt : RowsBefore → RowLine → ℕ → PathRow → LineSize → Type 0
IsLineAt before line start row size =
    (options : Options) (midpoint : ℕ) (bytes : List ℕ) → IsAmong options midpoint (drawn_in before) bytes line → IsPlaced options midpoint row bytes start size

-- the same of what is kept of it
abbrev pub IsAlso : RowsBefore → RowLine → PathRow → Type 0
IsAlso before line row = IsLineAt before line line.start row (line_size line)

-- the bytes of a line with what follows it over a line of this width
abbrev pub bytes_over : Options → ℕ → Line → List ℕ
bytes_over options width line = own_bytes options line ++ row_end (width - columns_of line)

-- the line of a row over one of this width is among these bytes, from this index on
pub record IsWritten (options : Options) (aligned : ℕ) (row : PathRow) (old_width : ℕ) (bytes : List ℕ) (start : ℕ) (size : LineSize) : Type 0 where
  pub own : IsSizeOf options aligned (row, None) size
  pub long : size.length + 1 ≡ length (bytes_over options old_width (untimed_line options aligned (row, None)))
  pub place : IsAt start (bytes_over options old_width (untimed_line options aligned (row, None))) bytes

-- a row is drawn with this throughput as without one
pub record ShowsNone (row : PathRow) (throughput : Option Throughput) : Type 0 where
  pub line : (options : Options) (midpoint : ℕ) → untimed_line options midpoint (row, throughput) ≡ untimed_line options midpoint (row, None)
  pub midpoint : (defensive : Bool) → midpoint_of defensive (row, throughput) ≡ midpoint_of defensive (row, None)

-- lines that are among the bytes still are when this one is added, if it is one where the throughput isn't shown
abbrev pub AddsLine : PathRow → Option Throughput → RowLine → List RowLine → List RowLine → Type 0
AddsLine row throughput line old new = (options : Options) (midpoint : ℕ) (rows : List PathRow) (bytes : List ℕ) → AreAmong options midpoint rows bytes old
    → (ShowsNone row throughput → IsAmong options midpoint rows bytes line) → AreAmong options midpoint rows bytes new

-- whether two units are the same, or there is none
abbrev pub are_same_units : Option TaskUnit → Option TaskUnit → Bool
are_same_units own other = option_eq same_measure (option_map measure_of own) (option_map measure_of other)

-- whether the progress of rows is the same
abbrev pub are_same_values : Option Value → Option Value → Bool
are_same_values own other = option_eq same_progress (option_map progress_of own) (option_map progress_of other)

-- rows whose lines are the same
pub record AreAlike (row other : PathRow) : Type 0 where
  pub level : length row.0 ≡ length other.0
  pub name : row.1.name ≡ other.1.name
  pub progress : row.1.progress ≡ other.1.progress

-- the lines of rows are the same with these options as with those
pub record DrawAlike (own other : Options) : Type 0 where
  pub width : own.terminal_dimensions.0 ≡ other.terminal_dimensions.0
  pub output_is_terminal : own.output_is_terminal ≡ other.output_is_terminal
  pub bar_columns : own.bar_columns ≡ other.bar_columns
  pub defensive : own.defensive ≡ other.defensive
  pub colored : own.colored ≡ other.colored
