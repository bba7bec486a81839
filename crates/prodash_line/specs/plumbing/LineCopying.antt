-- Lines that are copied from what is left of an earlier frame.
use Rattle.std.specs.Prelude.{◌≡◌, ◌<◌, ◌≤◌, ◌+◌, ◌-◌, ℕ, Bool, true, List, [], ◌++◌, drop, length, take}
use Rattle.prodash_base.specs.Rows.{PathRow}
use Rattle.prodash_line.specs.declared.render.line.draw.input.Options.{Options}
use Rattle.prodash_line.specs.declared.render.line.draw.latest_rows.KeptLines.{KeptLines}
use Rattle.prodash_line.specs.declared.render.line.draw.latest_rows.LineSize.{LineSize}
use Rattle.prodash_line.specs.declared.render.line.draw.latest_rows.RowLine.{RowLine}
use Rattle.prodash_line.specs.declared.render.line.draw.latest_rows.RowsBefore.{RowsBefore}
use Rattle.prodash_line.specs.declared.render.line.draw.line_copier.LineCopier.{LineCopier}
use Rattle.prodash_line.specs.ProgressRows.{DrawnRow}
use Rattle.prodash_line.specs.plumbing.OverwriteBytes.{row_end}
use Rattle.prodash_line.specs.plumbing.KeptLines.{AreAmong, IsSizeOf, IsWritten, drawn_in, own_bytes, untimed_line}

-- these lines of these rows, and the bytes at the end, are left of a frame of this length
pub record IsLeft (options : Options) (aligned : ℕ) (rows : List PathRow) (after : List RowLine) (bytes : List ℕ) (end : ℕ) : Type 0 where
  pub whole : List ℕ
  pub ends : length whole ≡ end
  pub left : bytes ≡ drop (end - length bytes) whole
  pub lines : AreAmong options aligned rows whole after

-- what a copier has left of an earlier frame, whose lines were drawn with these options and this midpoint
abbrev pub HasLeft : Options → ℕ → LineCopier → Type 0
HasLeft options midpoint copier = IsLeft options midpoint (drawn_in copier.before) copier.lines.1 copier.bytes.1 copier.end

-- how many bytes of the earlier frame are gone
abbrev pub gone_of : LineCopier → ℕ
gone_of copier = copier.end - length copier.bytes.1

-- with whichever options and midpoint there was something left, there still is
abbrev pub GoesOn : LineCopier → LineCopier → Type 0
GoesOn old new = (options : Options) (midpoint : ℕ) → HasLeft options midpoint old → HasLeft options midpoint new

-- nothing was written
pub record Skips (old new : LineCopier) : Type 0 where
  pub left : GoesOn old new
  pub bytes : new.bytes.0 ≡ old.bytes.0
  pub lines : new.lines.0 ≡ old.lines.0

-- these bytes were written
pub record Writes (old : LineCopier) (more : List ℕ) (new : LineCopier) : Type 0 where
  pub left : GoesOn old new
  pub bytes : new.bytes.0 ≡ old.bytes.0 ++ more
  pub lines : new.lines.0 ≡ old.lines.0

-- a line of this size was copied over one of this width
abbrev pub CopiesLine : LineCopier → LineSize → ℕ → LineCopier → Type 0
CopiesLine old size old_width new = Writes old (take size.length old.bytes.1 ++ row_end (old_width - size.width)) new

-- a frame begins with these bytes after one that has kept lines of rows
pub record Begins (before : RowsBefore) (kept : KeptLines) (alike : Bool) (first : List ℕ) (new : LineCopier) : Type 0 where
  pub left : (options : Options) (midpoint : ℕ) → (alike ≡ true → AreAmong options midpoint (drawn_in before) kept.bytes kept.lines.items) → HasLeft options midpoint new
  pub bytes : new.bytes.0 ≡ first
  pub lines : new.lines.0 ≡ []

-- what is left begins with a line of this size
pub record HasLine (copier : LineCopier) (size : LineSize) : Type 0 where
  pub line : 1 ≤ length copier.lines.1
  pub bytes : size.length ≤ length copier.bytes.1

-- it is the line of this row
pub record IsLineOf (options : Options) (midpoint : ℕ) (drawn : DrawnRow) (left : List ℕ) (large : LineSize) : Type 0 where
  pub size : IsSizeOf options midpoint drawn large
  pub bytes : take large.length left ≡ own_bytes options (untimed_line options midpoint drawn)

-- with whichever options and midpoint something is left
abbrev pub FindsLine : LineCopier → DrawnRow → LineSize → Type 0
FindsLine copier drawn size = (options : Options) (midpoint : ℕ) → HasLeft options midpoint copier → IsLineOf options midpoint drawn copier.bytes.1 size

-- the line of a row over one of this width is among the bytes of the earlier frame, from this index on, and none of it is gone
pub record IsNext (copier : LineCopier) (start : ℕ) (row : PathRow) (old_width : ℕ) (size : LineSize) : Type 0 where
  pub line : 1 ≤ length copier.lines.1
  pub bound : start + size.length < 8589934592
  pub fits : start + size.length + 1 - gone_of copier ≤ length copier.bytes.1
  pub written : (options : Options) (midpoint : ℕ) (left : HasLeft options midpoint copier) → IsWritten options midpoint row old_width left.whole start size
