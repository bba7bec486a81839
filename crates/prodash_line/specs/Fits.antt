-- Lines and frames that fit a page: of characters that are one column wide each, no wider than the page, and lower than its window.
use Rattle.std.specs.Prelude.{ℕ, ◌≡◌, ◌<◌, ◌≤◌, Bool, false, MatchBool, ⊤, Some, List, length}
use Rattle.std.specs.List.{AllByRecursion}
use Rattle.std.specs.Char.{IsScalar}
use Rattle.unicode_width.specs.Width.{char_width}
use Rattle.prodash_line.specs.Lines.{Piece, Line, width_of, columns_of, line_text}
use Rattle.prodash_line.specs.Frames.{Body, Unchanged, Draws, Closes, Frame}
use Rattle.prodash_line.specs.declared.render.line.draw.layout.Layout.TheVariants.{Overwriting}

-- one column wide, as no control character is
pub record IsPlainChar (c : ℕ) : Type 0 where
  pub scalar : IsScalar c
  pub width : char_width false c ≡ Some 1

-- plain characters, and as many columns as characters
pub record IsPlainPiece (p : Piece) : Type 0 where
  pub each : AllByRecursion IsPlainChar p.text
  pub width : width_of p ≡ length p.text

-- plain pieces, and as many columns as characters
pub record IsPlain (line : Line) : Type 0 where
  pub pieces : AllByRecursion IsPlainPiece line
  pub columns : columns_of line ≡ length (line_text line)

-- a plain line, no wider than the page; a line that is cut to the page's width need only be plain
pub record LineFits (cut : Bool) (columns : ℕ) (line : Line) : Type 0 where
  pub plain : IsPlain line
  pub within : MatchBool cut ⊤ (columns_of line ≤ columns)

-- each of the lines fits
abbrev pub LinesFit : Bool → ℕ → List Line → Type 0
LinesFit cut columns lines = AllByRecursion (LineFits cut columns) lines

-- lines that fit, at least one fewer than the window has rows
abbrev pub BodyFits : Bool → ℕ → ℕ → Body → Type 0
BodyFits cut columns height Unchanged = ⊤
BodyFits cut columns height (Draws lines) = LinesFit cut columns lines × (length lines < height)
BodyFits cut columns height (Closes ending) = ⊤

-- a frame that writes over the lines on screen, and whose messages and drawn lines fit
pub record FrameFits (cut : Bool) (columns height : ℕ) (f : Frame) : Type 0 where
  pub layout : f.layout ≡ Overwriting
  pub messages : LinesFit cut columns f.messages
  pub body : BodyFits cut columns height f.body
