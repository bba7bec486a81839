-- The line of a message: its time, its origin, aligned with those of other messages, and its text.
use Rattle.std.specs.Prelude.{ℕ, ◌-◌, max, List, [], ◌∷◌, ◌++◌, length, map, replicate, chars, nat_eq, Bool, ◌&&◌, Some, if◌then◌else◌}
use Rattle.prodash_base.specs.Moments.{time_text}
use Rattle.prodash_base.specs.Rings.{keep_last}
use Rattle.prodash_base.specs.declared.messages.Message.{Message}
use Rattle.prodash_line.specs.declared.render.line.draw.input.Options.{Options}
use Rattle.prodash_line.specs.Lines.{Line, piece, styled, spaces, columns_of, cut, in_color}
use Rattle.prodash_line.specs.DrawnLines.{drawn_chars, message_limit_of}
use Rattle.prodash_line.specs.TextStyles.{origin_style, message_style, time_style}

-- the width of an origin
abbrev pub origin_width : Bool → List ℕ → ℕ
origin_width defensive origin = columns_of (piece (drawn_chars defensive origin) ∷ [])

-- an origin after spaces that bring it to this width
abbrev pub aligned_origin : Bool → ℕ → List ℕ → List ℕ
aligned_origin defensive width origin = replicate (width - origin_width defensive origin) 32 ++ drawn_chars defensive origin

-- the time of day of a message and a space, if times are shown
abbrev pub time_of : Bool → Message → Line
time_of timestamp m = if timestamp then styled (Some (time_style m.level)) (chars (time_text m.time)) ∷ spaces 1 ∷ [] else []

-- the text of a message alone
abbrev pub bare_text_of : Bool → Message → Line
bare_text_of defensive m = styled (Some (message_style m.level)) (drawn_chars defensive m.message) ∷ []

-- the origin right-aligned to this width, a space, the text
abbrev pub text_of : Bool → ℕ → Message → Line
text_of defensive width m =
    styled (Some origin_style) (aligned_origin defensive width m.origin) ∷ spaces 1 ∷ bare_text_of defensive m

-- is a message drawn without what aligns it? if it has no origin, and the options say so
abbrev pub is_bare : Options → Message → Bool
is_bare options m = options.bare_without_origin && nat_eq (length m.origin) 0

-- a space, the time if times are shown, the origin right-aligned to this width, a space, the text; of a bare message the time and the text alone
abbrev pub message_line : Options → ℕ → Message → Line
message_line options width m =
    if is_bare options m then time_of options.timestamp m ++ bare_text_of options.defensive m
    else spaces 1 ∷ time_of options.timestamp m ++ text_of options.defensive width m

-- the line of a message as it is drawn: cut, unless messages are written whole
abbrev pub drawn_message_line : Options → ℕ → Message → Line
drawn_message_line options width m = cut (message_limit_of options) (in_color options.colored (message_line options width m))

-- the greatest of some widths, 0 if there are none
abbrev pub greatest_width : List ℕ → ℕ
greatest_width [] = 0
greatest_width (width ∷ widths) = max width (greatest_width widths)

-- the lines of a frame's messages after earlier origins of these widths: each origin is aligned to the greatest width up to its own
abbrev pub message_lines : Options → List ℕ → List Message → List Line
message_lines options widths [] = []
message_lines options widths (m ∷ messages) =
    let all = widths ++ origin_width options.defensive m.origin ∷ [] in
    drawn_message_line options (greatest_width all) m ∷ message_lines options all messages

-- the width of each message's origin
abbrev pub widths_of_origins : Bool → List Message → List ℕ
widths_of_origins defensive messages = map (λ m. origin_width defensive m.origin) messages

-- the origin widths that are kept after a frame's messages: the latest, as many as the terminal has rows
abbrev pub latest_origin_widths : Options → List ℕ → List Message → List ℕ
latest_origin_widths options widths messages = keep_last options.terminal_dimensions.1 (widths ++ widths_of_origins options.defensive messages)
