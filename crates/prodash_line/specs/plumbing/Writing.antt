-- What a line writer has written.
use Rattle.std.specs.Prelude.{◌||◌, if◌then◌else◌, ◌≡◌, ◌≤◌, ℕ, zero, suc, ◌+◌, ◌-◌, Bool, true, false, List, [], ◌∷◌, ◌++◌, chars, length, Option, Some, None, replicate}
use Rattle.std.specs.List.{list_all}
use Rattle.std.specs.Int.{is_in_range}
use Rattle.prodash_line.specs.declared.render.line.draw.drawn_text.DrawnText.{DrawnText}
use Rattle.prodash_line.specs.declared.render.line.draw.line_writer.LineWriter.{LineWriter}
use Rattle.prodash_line.specs.declared.render.line.draw.room.Room.{Room}
use Rattle.prodash_line.specs.declared.render.line.draw.room.Room.TheVariants.{Columns}
use Rattle.prodash_line.specs.declared.render.line.page.sign.Sign.TheVariants.{Open, Reset}
use Rattle.prodash_line.specs.declared.render.line.page.style.Color.{Color}
use Rattle.prodash_line.specs.declared.render.line.page.style.Style.{Style}
use Rattle.prodash_line.specs.Signs.{spelling_of, spelling}
use Rattle.prodash_line.specs.declared.render.line.draw.input.Options.{Options}
use Rattle.prodash_line.specs.Lines.{Line, piece, styled, spaces, capped, columns_of, in_color, cut}
use Rattle.prodash_line.specs.DrawnLines.{drawn_chars, limit_of, message_limit_of}
use Rattle.prodash_line.specs.plumbing.Cutting.{room_of, room_after_line, Fits}
use Rattle.prodash_line.specs.Frames.{line_signs}
use Rattle.prodash_base.specs.declared.messages.Message.{Message}
use Rattle.prodash_line.specs.MessageLines.{origin_width, time_of, bare_text_of, text_of, message_line}

-- n spaces and then a text
abbrev pub indented : ℕ → List ℕ → List ℕ
indented n text = replicate n 32 ++ text

-- the width that is given of a text is its own, in columns, capped
abbrev pub IsMeasured : DrawnText → Type 0
IsMeasured drawn = drawn.width ≡ columns_of (piece (chars drawn.text.now) ∷ [])

-- a byte n times, and then another one
abbrev pub run : ℕ → ℕ → ℕ → List ℕ
run byte n last = replicate n byte ++ last ∷ []

-- are all of them printable ASCII characters?
abbrev pub is_printable : List ℕ → Bool
is_printable text = list_all (is_in_range 0x20 0x7E) text

-- the bytes of a line
unfoldable pub line_bytes : Line → List ℕ
line_bytes line = spelling (line_signs line)

-- after these bytes, the writer has written this line, cut to these columns
pub record Writes (columns : Option ℕ) (before : List ℕ) (line : Line) (w : LineWriter) : Type 0 where
  pub bytes : w.bytes ≡ before ++ line_bytes (cut columns line)
  pub width : w.width ≡ columns_of line
  pub limit : w.limit ≡ columns
  pub room : w.room ≡ room_after_line (room_of columns) line

-- the style that a text of n bytes is written in: none if it is empty
abbrev pub style_of_length : Option Style → ℕ → Option Style
style_of_length None n = None
style_of_length (Some style) zero = None
style_of_length (Some style) (suc n) = Some style

-- the colour of a style that is a colour alone
abbrev pub color_alone : Style → Option Color
color_alone style = if style.bold || style.dim || style.on_yellow then None else style.color

-- the bytes that begin a style
abbrev pub open_bytes : Option Style → List ℕ
open_bytes None = []
open_bytes (Some style) = spelling_of (Open style)

-- the bytes that end it
abbrev pub reset_bytes : Option Style → List ℕ
reset_bytes None = []
reset_bytes (Some style) = spelling_of Reset

-- whatever line was there, these pieces follow it
pub record Appends (old : LineWriter) (pieces : Line) (new : LineWriter) : Type 0 where
  pub writes : (limit : Option ℕ) (before : List ℕ) (line : Line) → Writes limit before line old → Writes limit before (line ++ pieces) new

-- they follow it in colour, or without styles
abbrev pub AppendsIn : Bool → LineWriter → Line → LineWriter → Type 0
AppendsIn colored old pieces new = Appends old (in_color colored pieces) new

-- a text in a style, a space, and a text without a style follow it
abbrev pub AppendsPair : Option Style → DrawnText → DrawnText → LineWriter → LineWriter → Type 0
AppendsPair style first second old new =
    Appends old (styled style (chars first.text.now) ∷ spaces 1 ∷ piece (chars second.text.now) ∷ []) new

-- n spaces and a text follow it, as one piece in a style
abbrev pub AppendsIndented : Option Style → ℕ → DrawnText → LineWriter → LineWriter → Type 0
AppendsIndented style n drawn old new = Appends old (styled style (indented n (chars drawn.text.now)) ∷ []) new

-- printable characters follow in a line that has room for all of them
pub record AppendsWhole (old : LineWriter) (text : List ℕ) (new : LineWriter) : Type 0 where
  pub left : ℕ
  pub room : old.room ≡ Columns left
  pub fits : length text ≤ left
  pub bytes : new.bytes ≡ old.bytes ++ text
  pub width : new.width ≡ capped (old.width + length text)
  pub limit : new.limit ≡ old.limit
  pub after : new.room ≡ Columns (left - length text)

-- if the line has room for all of them they follow, and else nothing does
abbrev pub AppendsIfRoom : LineWriter → List ℕ → LineWriter → Bool → Type 0
AppendsIfRoom old text new true = AppendsWhole old text new
AppendsIfRoom old text new false = new ≡ old

-- this line, cut to the limit, follows the bytes of old
pub record Begun (limit : Option ℕ) (old : LineWriter) (line : Line) (new : LineWriter) : Type 0 where
  pub writes : Writes limit old.bytes line new

-- this line, as it is drawn, follows the bytes of old
abbrev pub DrawsLine : Options → LineWriter → Line → LineWriter → Type 0
DrawsLine options old line new = Begun (limit_of options) old (in_color options.colored line) new

-- no text was counted to the line
pub record SameLine (old new : LineWriter) : Type 0 where
  pub width : new.width ≡ old.width
  pub limit : new.limit ≡ old.limit
  pub room : new.room ≡ old.room

-- of any text of n printable characters this many are written where there is this room, and then there is this room
abbrev pub FitsPrintable : Room → ℕ → ℕ → Room → Type 0
FitsPrintable room n count rest = (text : List ℕ) → is_printable text ≡ true → length text ≡ n → Fits room text count rest

-- A text of n printable characters is counted to the line, and nothing is written yet. This many of its characters are to be written.
pub record Counts (old : LineWriter) (n count : ℕ) (new : LineWriter) : Type 0 where
  pub bytes : new.bytes ≡ old.bytes
  pub width : new.width ≡ capped (old.width + n)
  pub limit : new.limit ≡ old.limit
  pub within : count ≤ n
  pub fits : FitsPrintable old.room n count new.room

-- the origin of a message as it is drawn, and its width
pub record IsOriginOf (options : Options) (m : Message) (origin : DrawnText) : Type 0 where
  pub drawn : chars origin.text.now ≡ drawn_chars options.defensive m.origin
  pub width : origin.width ≡ origin_width options.defensive m.origin

-- the line of a message whose origin is right-aligned to this width, as it is drawn, follows the bytes of old
abbrev pub DrawsMessage : Options → ℕ → Message → LineWriter → LineWriter → Type 0
DrawsMessage options width m old new =
    Begun (message_limit_of options) old (in_color options.colored (message_line options width m)) new

-- its origin, a space and its text follow
abbrev pub AppendsOriginAndText : Options → ℕ → Message → LineWriter → LineWriter → Type 0
AppendsOriginAndText options width m old new = AppendsIn options.colored old (text_of options.defensive width m) new

-- its text alone follows
abbrev pub AppendsBareText : Options → Message → LineWriter → LineWriter → Type 0
AppendsBareText options m old new = AppendsIn options.colored old (bare_text_of options.defensive m) new

-- its time as it is drawn
abbrev pub drawn_time : Options → Message → Line
drawn_time options m = in_color options.colored (time_of options.timestamp m)
