-- What signs bytes begin with, as reading them finds them: characters, numbers, styles and control sequences.
use Rattle.std.specs.Prelude.{◌≡◌, [], ℕ, Option, MatchOption, ◌<◌, ◌≤◌, List, Bool, ◌^◌, ◌++◌, length, take, ◌∷◌, ◌≢◌}
use Rattle.prodash_line.specs.declared.render.line.page.sign.Sign.{Sign}
use Rattle.std.specs.Char.{IsScalar, encode_utf8}
use Rattle.prodash_line.specs.declared.render.line.page.style.Style.{Style}
use Rattle.std.specs.Fmt.{decimal}
use Rattle.std.specs.Int.{is_in_range}
use Rattle.std.specs.Str.{IsUtf8}
use Rattle.prodash_line.specs.Styles.{style_codes, style_parameters, color_code}
use Rattle.prodash_line.specs.Signs.{spelling_of, sequence, IsProper}
use Rattle.prodash_line.specs.declared.render.line.page.style.Color.{Color}

-- no colour has this code
abbrev pub NoColor : ℕ → Type 0
NoColor code = (color : Color) → color_code color ≡ code → ⊥

-- this style has one code more
abbrev pub AddsCode : Style → ℕ → Style → Type 0
AddsCode style code more = style_codes more ≡ style_codes style ++ code ∷ []

-- no style has this code next after those of the style
abbrev pub AddsNone : Style → ℕ → Type 0
AddsNone style code = (other : Style) (rest : List ℕ) → style_codes other ≡ style_codes style ++ code ∷ rest → ⊥

-- the bytes begin with no character
abbrev pub NoCharAt : List ℕ → Type 0
NoCharAt bytes = (c : ℕ) (rest : List ℕ) → IsScalar c → bytes ≡ encode_utf8 c ++ rest → ⊥

-- no prefix longer than n bytes is text
abbrev pub NoLongerText : List ℕ → ℕ → Type 0
NoLongerText bytes n = (m : ℕ) → n < m → m ≤ length bytes → IsUtf8 (take m bytes) → ⊥

-- these are the digits of this number, which isn't 0
abbrev pub IsNumber : List ℕ → ℕ → Type 0
IsNumber digits n = (0 < n) × (decimal n ≡ digits)

-- they are those of no number from 1 to 65535
abbrev pub NoNumber : List ℕ → Type 0
NoNumber digits = (n : ℕ) → 0 < n → n < 2 ^ 16 → decimal n ≡ digits → ⊥

-- the bytes begin with this sign, which is proper, and go on with the rest
abbrev pub IsSignAt : List ℕ → Sign → List ℕ → Type 0
IsSignAt bytes s rest = IsProper s × (bytes ≡ spelling_of s ++ rest)

-- the bytes begin with no proper sign
abbrev pub NoSignAt : List ℕ → Type 0
NoSignAt bytes = (s : Sign) (rest : List ℕ) → IsProper s → bytes ≡ spelling_of s ++ rest → ⊥

-- a parameter byte of a control sequence, from `0` to `?`
abbrev pub is_parameter : ℕ → Bool
is_parameter b = is_in_range 48 63 b

-- the parameters are those of no style that has a code
abbrev pub NoStyle : List ℕ → Type 0
NoStyle parameters = (style : Style) → style_codes style ≢ [] → style_parameters style ≡ parameters → ⊥

-- they are those of this style, which has a code
abbrev pub IsStyle : List ℕ → Style → Type 0
IsStyle parameters style = (style_codes style ≢ []) × (style_parameters style ≡ parameters)

-- this proper sign's sequence has these parameters and this final byte
abbrev pub Makes : List ℕ → ℕ → Sign → Type 0
Makes parameters final_byte s = IsProper s × (spelling_of s ≡ sequence parameters final_byte)

-- no proper sign's sequence has these parameters and this final byte
abbrev pub MakesNone : List ℕ → ℕ → Type 0
MakesNone parameters final_byte = (s : Sign) → IsProper s → spelling_of s ≡ sequence parameters final_byte → ⊥

-- the sign whose sequence has these parameters and this final byte, if there is one
abbrev pub MakesSign : List ℕ → ℕ → Option Sign → Type 0
MakesSign parameters final_byte sign = MatchOption sign (MakesNone parameters final_byte) (Makes parameters final_byte)

-- ESC, an opening bracket and the bytes begin with this proper sign, and go on with the rest
abbrev pub IsSequenceAt : List ℕ → Sign → List ℕ → Type 0
IsSequenceAt bytes s rest = IsSignAt (27 ∷ 91 ∷ bytes) s rest

-- ESC, an opening bracket and the bytes begin with no proper sign
abbrev pub NoSequenceAt : List ℕ → Type 0
NoSequenceAt bytes = NoSignAt (27 ∷ 91 ∷ bytes)
