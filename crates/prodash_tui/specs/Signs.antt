-- The bytes that spell signs: characters in UTF-8, control functions as in ECMA-48, and the private modes of xterm.
use Rattle.std.specs.Prelude.{ℕ, ◌+◌, List, [], ◌∷◌, ◌++◌, Option, Some, None, option_map}
use Rattle.std.specs.Bool.{then_some}
use Rattle.std.specs.List.{flat_map}
use Rattle.std.specs.Char.{encode_utf8}
use Rattle.std.specs.Fmt.{decimal}
use Rattle.prodash_line.specs.Signs.{sequence}
use Rattle.prodash_tui.specs.declared.sign.Sign.{Sign}
use Rattle.prodash_tui.specs.declared.sign.Sign.TheVariants.{Char, MoveTo, SetStyle, EraseScreen, EnterAlternate, LeaveAlternate, HideCursor, ShowCursor, NoWrap, Wrap}
use Rattle.prodash_tui.specs.declared.style.Color.{Color}
use Rattle.prodash_tui.specs.declared.style.Color.TheVariants.{Black, Red, Green, Yellow, White, LightRed}
use Rattle.prodash_tui.specs.declared.style.Style.{Style}

-- the number of a colour: that of light ones is 60 more
abbrev pub color_number : Color → ℕ
color_number Black = 0
color_number Red = 1
color_number Green = 2
color_number Yellow = 3
color_number White = 7
color_number LightRed = 61

-- a code behind a `;`, if there is one
abbrev pub code_parameter : Option ℕ → List ℕ
code_parameter None = []
code_parameter (Some code) = 59 ∷ decimal code

-- 0, which ends all styles, and then the codes of a style
abbrev pub style_parameters : Style → List ℕ
style_parameters s =
    48
    ∷ code_parameter (then_some s.bold 1)
    ++ (code_parameter (option_map (λ c. 30 + color_number c) s.foreground) ++ code_parameter (option_map (λ c. 40 + color_number c) s.background))

-- a row and a column, counted from 1
abbrev pub move_parameters : ℕ → ℕ → List ℕ
move_parameters row column = decimal (row + 1) ++ 59 ∷ decimal (column + 1)

-- the bytes of a sign
abbrev pub spelling_of : Sign → List ℕ
spelling_of (Char c) = encode_utf8 c
spelling_of (MoveTo row column) = sequence (move_parameters row column) 72
spelling_of (SetStyle style) = sequence (style_parameters style) 109
spelling_of EraseScreen = sequence (50 ∷ []) 74
spelling_of EnterAlternate = sequence (63 ∷ 49 ∷ 48 ∷ 52 ∷ 57 ∷ []) 104
spelling_of LeaveAlternate = sequence (63 ∷ 49 ∷ 48 ∷ 52 ∷ 57 ∷ []) 108
spelling_of HideCursor = sequence (63 ∷ 50 ∷ 53 ∷ []) 108
spelling_of ShowCursor = sequence (63 ∷ 50 ∷ 53 ∷ []) 104
spelling_of NoWrap = sequence (63 ∷ 55 ∷ []) 108
spelling_of Wrap = sequence (63 ∷ 55 ∷ []) 104

-- the bytes of a list of signs
abbrev pub spelling : List Sign → List ℕ
spelling signs = flat_map spelling_of signs
