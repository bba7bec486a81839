-- How much of a line is still written where it is cut, piece by piece.
use Rattle.std.specs.Prelude.{◌≡◌, ℕ, ◌-◌, nat_le, false, if◌then◌else◌, List, [], ◌∷◌, take, Option, Some, None}
use Rattle.unicode_width.specs.Width.{str_width}
use Rattle.prodash_line.specs.declared.render.line.draw.room.Room.{Room}
use Rattle.prodash_line.specs.declared.render.line.draw.room.Room.TheVariants.{Unlimited, Columns, Full}
use Rattle.prodash_line.specs.Lines.{Line, longest_prefix}

-- what is written of a text where there is this room
abbrev pub written_in : Room → List ℕ → List ℕ
written_in Unlimited text = text
written_in (Columns left) text = if nat_le (str_width false text) left then text else longest_prefix left text
written_in (Full left) text = []

-- the room after a text
abbrev pub room_after : Room → List ℕ → Room
room_after Unlimited text = Unlimited
room_after (Columns left) text =
    if nat_le (str_width false text) left then Columns (left - str_width false text) else Full (left - str_width false (longest_prefix left text))
room_after (Full left) text = Full left

-- the room of a line that is cut to this many columns, or of a whole one
abbrev pub room_of : Option ℕ → Room
room_of None = Unlimited
room_of (Some columns) = Columns columns

-- the room after a line
abbrev pub room_after_line : Room → Line → Room
room_after_line room [] = room
room_after_line room (p ∷ line) = room_after_line (room_after room p.text) line

-- the columns that are left
abbrev pub left_of : Room → ℕ
left_of Unlimited = 0
left_of (Columns left) = left
left_of (Full left) = left

-- of a text this many characters are written, and then there is this room
pub record Fits (room : Room) (text : List ℕ) (count : ℕ) (rest : Room) : Type 0 where
  pub written : written_in room text ≡ take count text
  pub after : rest ≡ room_after room text
