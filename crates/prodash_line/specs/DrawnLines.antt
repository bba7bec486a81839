-- Texts and lines as they are drawn: without unsafe characters if the renderer is defensive, in colour or not, and cut at the width of a
-- terminal; and how frames are laid out.
use Rattle.std.specs.Prelude.{ℕ, Bool, false, ◌&&◌, List, map, chars, Option, None, if◌then◌else◌}
use Rattle.std.specs.Bool.{then_some}
use Rattle.prodash_line.specs.declared.render.line.draw.input.Options.{Options}
use Rattle.prodash_line.specs.UnsafeCharacters.{is_unsafe}
use Rattle.prodash_line.specs.Lines.{Line, cut, in_color}
use Rattle.prodash_line.specs.declared.render.line.draw.layout.Layout.{Layout}
use Rattle.prodash_line.specs.declared.render.line.draw.layout.Layout.TheVariants.{Overwriting, Erasing}

-- a character of a text in a defensive frame: U+FFFD in place of an unsafe character
abbrev pub safe_char : ℕ → ℕ
safe_char c = if is_unsafe c then 0xFFFD else c

-- the characters of a text as they are drawn: by a defensive renderer without unsafe characters
abbrev pub drawn_chars : Bool → List ℕ → List ℕ
drawn_chars defensive text = if defensive then map safe_char (chars text) else chars text

-- the columns to which lines are cut: those of the terminal; on an output that is none, lines are whole
abbrev pub limit_of : Options → Option ℕ
limit_of options = then_some options.output_is_terminal options.terminal_dimensions.0

-- a line as it is drawn
abbrev pub as_drawn : Options → Line → Line
as_drawn options line = cut (limit_of options) (in_color options.colored line)

-- are the rows that a frame writes on erased first? on a terminal, if the renderer is defensive
abbrev pub erases_rows : Options → Bool
erases_rows options = options.defensive && options.output_is_terminal

-- are rows of running tasks drawn before others where frames have room for some only?
abbrev pub prefers_running : Options → Bool
prefers_running options = options.prefer_running && erases_rows options

-- how the frames of a renderer with these options are laid out
abbrev pub layout_of : Options → Layout
layout_of options = if erases_rows options then Erasing options.terminal_dimensions.1 options.synchronized options.whole_messages else Overwriting

-- are messages written whole, with wrapping?
abbrev pub prints_whole : Layout → Bool
prints_whole Overwriting = false
prints_whole (Erasing height synchronized whole) = whole

-- the columns to which the lines of messages are cut: none, if they are written whole
abbrev pub message_limit_of : Options → Option ℕ
message_limit_of options = if prints_whole (layout_of options) then None else limit_of options
