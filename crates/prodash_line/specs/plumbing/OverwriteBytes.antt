-- The bytes of lines over those on screen.
use Rattle.std.specs.Prelude.{◌≡◌, ℕ, ◌-◌, List, [], ◌∷◌, ◌++◌, drop, replicate, Option}
use Rattle.prodash_line.specs.declared.render.line.draw.line_writer.LineWriter.{LineWriter}
use Rattle.prodash_line.specs.Lines.{Line, columns_of, cut}
use Rattle.prodash_line.specs.declared.render.line.draw.layout.Layout.{Layout}
use Rattle.prodash_line.specs.Signs.{spelling}
use Rattle.prodash_line.specs.Frames.{first_width, row_start}
use Rattle.prodash_line.specs.plumbing.Writing.{line_bytes, Begun}

-- the writer at the beginning of a line's row, which is erased first where frames do that
abbrev pub on_row : Layout → LineWriter → LineWriter
on_row layout w = record w { bytes = w.bytes ++ spelling (row_start layout) }

-- n spaces, and a line feed
abbrev pub row_end : ℕ → List ℕ
row_end n = replicate n 32 ++ 10 ∷ []

-- the bytes of a line over one of this width
abbrev pub overwrite_line_bytes : ℕ → Line → List ℕ
overwrite_line_bytes width line = line_bytes line ++ row_end (width - columns_of line)

-- the bytes of lines, each over the line on screen in its row
abbrev pub lines_bytes : Layout → List ℕ → List Line → List ℕ
lines_bytes layout widths [] = []
lines_bytes layout widths (line ∷ lines) =
    spelling (row_start layout) ++ (overwrite_line_bytes (first_width widths) line ++ lines_bytes layout (drop 1 widths) lines)

-- the bytes of an empty line over each line on screen
abbrev pub blank_bytes : List ℕ → List ℕ
blank_bytes [] = []
blank_bytes (width ∷ widths) = overwrite_line_bytes width [] ++ blank_bytes widths

-- this line, over one of this width, follows the bytes of old
pub record Overwrites (old : LineWriter) (width : ℕ) (line : Line) (new : LineWriter) : Type 0 where
  pub bytes : new.bytes ≡ old.bytes ++ overwrite_line_bytes width line

-- whatever line has been begun is ended, over one of this width
abbrev pub EndsOver : LineWriter → ℕ → LineWriter → Type 0
EndsOver old width new =
    (limit : Option ℕ) (before : LineWriter) (line : Line) → Begun limit before line old → Overwrites before width (cut limit line) new

-- whatever line has been begun is this many columns wide where it is cut
abbrev pub IsCutWidth : LineWriter → ℕ → Type 0
IsCutWidth w n = (limit : Option ℕ) (before : LineWriter) (line : Line) → Begun limit before line w → n ≡ columns_of (cut limit line)
