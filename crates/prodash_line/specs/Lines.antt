-- Lines, how many columns they take, and where they are cut.
use Rattle.std.specs.Prelude.{ℕ, zero, suc, ◌-◌, nat_le, Bool, false, if◌then◌else◌, List, [], ◌∷◌, length, map, take, Option, Some, None, min, replicate, sum_by}
use Rattle.std.specs.Bool.{then_some}
use Rattle.std.specs.List.{flat_map}
use Rattle.unicode_width.specs.Width.{str_width}
use Rattle.prodash_line.specs.declared.render.line.page.style.Style.{Style}

-- a part of a line: its style, if it has one, and its characters
pub record Piece : Type 0 where
  pub style : Option Style
  pub text : List ℕ

-- the pieces of a line, from left to right
abbrev pub Line : Type 0
Line = List Piece

-- a text in a style, or in none
abbrev pub styled : Option Style → List ℕ → Piece
styled style text = record { style = style; text = text }

-- a text without a style
abbrev pub piece : List ℕ → Piece
piece text = styled None text

-- n spaces
abbrev pub spaces : ℕ → Piece
spaces n = piece (replicate n 32)

-- widths are capped at 65535
abbrev pub capped : ℕ → ℕ
capped n = min n 65535

-- the width of a piece, in columns
abbrev pub width_of : Piece → ℕ
width_of p = str_width false p.text

-- the width of a line, in columns
abbrev pub columns_of : Line → ℕ
columns_of line = capped (sum_by width_of line)

-- the characters of a line
abbrev pub line_text : Line → List ℕ
line_text line = flat_map (λ p. p.text) line

-- the style in which a text is drawn: none without colour
abbrev pub shown_style : Bool → Option Style → Option Style
shown_style colored None = None
shown_style colored (Some style) = then_some colored style

-- a line as it is drawn: without colour no text has a style
abbrev pub in_color : Bool → Line → Line
in_color colored line = map (λ p. styled (shown_style colored p.style) p.text) line

-- the longest prefix of a text, of at most k characters, that is no wider than this
abbrev pub longest_prefix_of : ℕ → List ℕ → ℕ → List ℕ
longest_prefix_of columns text zero = []
longest_prefix_of columns text (suc k) =
    if nat_le (str_width false (take (suc k) text)) columns then take (suc k) text else longest_prefix_of columns text k

-- the longest prefix of a text that is no wider than this
unfoldable pub longest_prefix : ℕ → List ℕ → List ℕ
longest_prefix columns text = longest_prefix_of columns text (length text)

-- the pieces from the first on that fit these columns together, then of the next one its longest prefix that fits
abbrev pub cut_to : ℕ → Line → Line
cut_to columns [] = []
cut_to columns (p ∷ line) =
    if nat_le (width_of p) columns then p ∷ cut_to (columns - width_of p) line else record p { text = longest_prefix columns p.text } ∷ []

-- a line cut to this many columns, or whole
abbrev pub cut : Option ℕ → Line → Line
cut None line = line
cut (Some columns) line = cut_to columns line
