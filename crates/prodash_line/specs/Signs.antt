-- The bytes that spell signs: characters in UTF-8, control functions as in ECMA-48.
use Rattle.std.specs.Prelude.{◌≡◌, ◌≢◌, ℕ, ◌<◌, ◌^◌, false, ⊤, List, [], ◌∷◌, ◌++◌}
use Rattle.std.specs.List.{flat_map}
use Rattle.std.specs.Char.{encode_utf8, IsScalar, is_control}
use Rattle.std.specs.Fmt.{decimal}
use Rattle.prodash_line.specs.declared.render.line.page.sign.Sign.{Sign}
use Rattle.prodash_line.specs.declared.render.line.page.sign.Sign.TheVariants.{Char, LineFeed, CarriageReturn, Up, EraseLine, EraseBelow, HideCursor, ShowCursor, NoWrap, Wrap, BeginUpdate, EndUpdate, Open, Reset}
use Rattle.prodash_line.specs.Styles.{style_codes, style_parameters}

-- a control sequence: ESC, an opening bracket, parameters, and a final byte
abbrev pub sequence : List ℕ → ℕ → List ℕ
sequence parameters final_byte = 27 ∷ 91 ∷ parameters ++ final_byte ∷ []

-- the bytes of a sign
abbrev pub spelling_of : Sign → List ℕ
spelling_of (Char c) = encode_utf8 c
spelling_of LineFeed = 10 ∷ []
spelling_of CarriageReturn = 13 ∷ []
spelling_of (Up n) = sequence (decimal n) 65
spelling_of EraseLine = sequence (50 ∷ []) 75
spelling_of EraseBelow = sequence [] 74
spelling_of HideCursor = sequence (63 ∷ 50 ∷ 53 ∷ []) 108
spelling_of ShowCursor = sequence (63 ∷ 50 ∷ 53 ∷ []) 104
spelling_of NoWrap = sequence (63 ∷ 55 ∷ []) 108
spelling_of Wrap = sequence (63 ∷ 55 ∷ []) 104
spelling_of BeginUpdate = sequence (63 ∷ 50 ∷ 48 ∷ 50 ∷ 54 ∷ []) 104
spelling_of EndUpdate = sequence (63 ∷ 50 ∷ 48 ∷ 50 ∷ 54 ∷ []) 108
spelling_of (Open style) = sequence (style_parameters style) 109
spelling_of Reset = sequence (48 ∷ []) 109

-- the bytes of a list of signs
abbrev pub spelling : List Sign → List ℕ
spelling signs = flat_map spelling_of signs

-- a sign that can be read back: its character is no control character, its number is from 1 to 65535, its style has a code
abbrev pub IsProper : Sign → Type 0
IsProper (Char c) = IsScalar c × (is_control c ≡ false)
IsProper LineFeed = ⊤
IsProper CarriageReturn = ⊤
IsProper (Up n) = (0 < n) × (n < 2 ^ 16)
IsProper EraseLine = ⊤
IsProper EraseBelow = ⊤
IsProper HideCursor = ⊤
IsProper ShowCursor = ⊤
IsProper NoWrap = ⊤
IsProper Wrap = ⊤
IsProper BeginUpdate = ⊤
IsProper EndUpdate = ⊤
IsProper (Open style) = style_codes style ≢ []
IsProper Reset = ⊤
