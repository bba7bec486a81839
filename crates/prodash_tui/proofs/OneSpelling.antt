-- No sign's spelling begins another's, so no two lists of readable signs are spelled by the same bytes.
use Rattle.std.proofs.Common.{◌≡◌, ℕ, ◌+◌, ◌-◌, ◌^◌, ◌<◌, Bool, true, false, cond, ◌&&◌, eqb, List, [], ◌∷◌, ◌++◌, length, get_or, drop, Option, Some, None, refl, sym, ap, ◌∙◌, arith}
use Rattle.std.specs.Prelude.{◌==◌, option_map}
use Rattle.std.specs.Bool.{then_some}
use Rattle.std.specs.Str.Parse.{digits_value}
use Rattle.std.specs.Fmt.{decimal, digits}
use Rattle.std.proofs.lemmas.Fmt.{decimal_is_IsNumeral}
use Rattle.std.proofs.lemmas.List.Splits.{slice_split_none, slice_split_at}
use Rattle.std.proofs.lemmas.Str.{encode_same, length-encode, len_utf8_bounds}
use Rattle.prodash_line.specs.plumbing.SignReading.{is_parameter}
use Rattle.prodash_line.proofs.Lists.{AllByRecursion-append}
use Rattle.prodash_line.proofs.Spellings.{AllParameters, BeginsWithControl, decimal_not_semicolon, decimal_parameters, lists_have_one_spelling, no_char_begins, read_back_once, read_sequence, sequence_is_read}
use Rattle.prodash_line.proofs.StyleParameters.{parts_of}
use Rattle.prodash_tui.specs.declared.sign.Sign.{Sign}
use Rattle.prodash_tui.specs.declared.sign.Sign.TheVariants.{Char, MoveTo, SetStyle, EraseScreen, EnterAlternate, LeaveAlternate, HideCursor, ShowCursor, NoWrap, Wrap}
use Rattle.prodash_tui.specs.declared.style.Color.{Color}
use Rattle.prodash_tui.specs.declared.style.Color.TheVariants.{Black, Red, Green, Yellow, White, LightRed}
use Rattle.prodash_tui.specs.declared.style.Style.{Style}
use Rattle.prodash_tui.specs.Signs.{code_parameter, color_number, move_parameters, spelling, spelling_of, style_parameters}
use Rattle.prodash_tui.specs.Reading.{AreReadable, IsReadable}

-- ---- styles by their parameters

abbrev fore : Option Color → List ℕ
fore f = code_parameter (option_map (λ c. 30 + color_number c) f)

abbrev back : Option Color → List ℕ
back b = code_parameter (option_map (λ c. 40 + color_number c) b)

-- the colour of the second digit of its code
abbrev color_at : ℕ → Option Color
color_at digit = cond (digit == 48) (Some Black) (cond (digit == 49) (Some Red) (cond (digit == 50) (Some Green) (cond (digit == 51) (Some Yellow) (Some White))))

-- the colour of characters whose code comes first, if one does
abbrev fore_of : List ℕ → Option Color
fore_of p = cond (get_or p 1 0 == 51) (color_at (get_or p 2 0)) (cond (get_or p 1 0 == 57) (Some LightRed) None)

-- the colour behind them
abbrev back_of : List ℕ → Option Color
back_of p = cond (get_or p 1 0 == 52) (color_at (get_or p 2 0)) (cond (get_or p 1 0 == 49) (Some LightRed) None)

-- what follows the code of a colour of characters, if one comes first
abbrev behind_fore : List ℕ → List ℕ
behind_fore p = cond (get_or p 1 0 == 51) (drop 3 p) (cond (get_or p 1 0 == 57) (drop 3 p) p)

-- does bold come first?
abbrev is_bold : List ℕ → Bool
is_bold p = get_or p 1 0 == 49 && get_or p 2 59 == 59

abbrev style_from : Bool → List ℕ → Style
style_from bold p = record { bold = bold; foreground = fore_of p; background = back_of (behind_fore p) }

-- the style of these parameters, behind the first 0
abbrev style_of : List ℕ → Style
style_of p = cond (is_bold p) (style_from true (drop 2 p)) (style_from false p)

back_of-back : (b : Option Color) → back_of (back b) ≡ b
unfolding digits
back_of-back None = refl
back_of-back (Some Black) = refl
back_of-back (Some Red) = refl
back_of-back (Some Green) = refl
back_of-back (Some Yellow) = refl
back_of-back (Some White) = refl
back_of-back (Some LightRed) = refl

-- the code of a colour behind characters is that of no colour of characters, nor that of bold
no_fore : (b : Option Color) → (fore_of (back b) ≡ None) × (behind_fore (back b) ≡ back b) × (is_bold (back b) ≡ false)
unfolding digits
no_fore None = (refl, refl, refl)
no_fore (Some Black) = (refl, refl, refl)
no_fore (Some Red) = (refl, refl, refl)
no_fore (Some Green) = (refl, refl, refl)
no_fore (Some Yellow) = (refl, refl, refl)
no_fore (Some White) = (refl, refl, refl)
no_fore (Some LightRed) = (refl, refl, refl)

fore_first : (f b : Option Color) → (fore_of (fore f ++ back b) ≡ f) × (behind_fore (fore f ++ back b) ≡ back b) × (is_bold (fore f ++ back b) ≡ false)
unfolding digits
fore_first None b = no_fore b
fore_first (Some Black) b = (refl, refl, refl)
fore_first (Some Red) b = (refl, refl, refl)
fore_first (Some Green) b = (refl, refl, refl)
fore_first (Some Yellow) b = (refl, refl, refl)
fore_first (Some White) b = (refl, refl, refl)
fore_first (Some LightRed) b = (refl, refl, refl)

colored : (bold : Bool) (f b : Option Color) → style_from bold (fore f ++ back b) ≡ record { bold = bold; foreground = f; background = b }
colored bold f b =
    let first = fore_first f b in
    λ i. record { bold = bold; foreground = first.0 i; background = (ap back_of first.1 ∙ back_of-back b) i }

-- codes begin with a `;`
begins : (f b : Option Color) → get_or (fore f ++ back b) 0 59 ≡ 59
begins None None = refl
begins None (Some b) = refl
begins (Some f) b = refl

bold_first : (rest : List ℕ) → get_or rest 0 59 ≡ 59 → is_bold (59 ∷ 49 ∷ rest) ≡ true
bold_first rest h = ap (λ (n : ℕ). n == 59) h

style_of-codes : (bold : Bool) (f b : Option Color) → style_of (code_parameter (then_some bold 1) ++ (fore f ++ back b)) ≡ record { bold = bold; foreground = f; background = b }
unfolding digits
style_of-codes true f b =
    let rest = fore f ++ back b in
    ap (λ (t : Bool). cond t (style_from true rest) (style_from false (59 ∷ 49 ∷ rest))) (bold_first rest (begins f b)) ∙ colored true f b
style_of-codes false f b =
    let rest = fore f ++ back b in
    ap (λ (t : Bool). cond t (style_from true (drop 2 rest)) (style_from false rest)) (fore_first f b).2 ∙ colored false f b

-- ---- parameters

color_small : (c : Color) → color_number c < 62
color_small Black = omega arith
color_small Red = omega arith
color_small Green = omega arith
color_small Yellow = omega arith
color_small White = omega arith
color_small LightRed = omega arith

-- codes are parameter bytes
fore_is_parameters : (f : Option Color) → AllParameters (fore f)
fore_is_parameters None = tt
fore_is_parameters (Some c) = (refl, decimal_parameters (30 + color_number c) (omega (arith, color_small c)))

back_is_parameters : (b : Option Color) → AllParameters (back b)
back_is_parameters None = tt
back_is_parameters (Some c) = (refl, decimal_parameters (40 + color_number c) (omega (arith, color_small c)))

bold_is_parameters : (bold : Bool) → AllParameters (code_parameter (then_some bold 1))
unfolding digits
bold_is_parameters true = (refl, (refl, tt))
bold_is_parameters false = tt

style_is_parameters : (s : Style) → AllParameters (style_parameters s)
style_is_parameters s =
    let each = λ (b : ℕ). is_parameter b ≡ true in (
      refl,
      AllByRecursion-append each (code_parameter (then_some s.bold 1)) _ (bold_is_parameters s.bold)
          (AllByRecursion-append each (fore s.foreground) _ (fore_is_parameters s.foreground) (back_is_parameters s.background)),
    )

move_is_parameters : (row column : ℕ) → row < 2 ^ 16 → column < 2 ^ 16 → AllParameters (move_parameters row column)
move_is_parameters row column low near =
    AllByRecursion-append (λ b. is_parameter b ≡ true) (decimal (row + 1)) _ (decimal_parameters (row + 1) (omega arith))
    (refl, decimal_parameters (column + 1) (omega arith))

-- the parts of a motion are its numbers
parts_of-move : (row column : ℕ) → row < 2 ^ 16 → column < 2 ^ 16 → parts_of (move_parameters row column) ≡ decimal (row + 1) ∷ decimal (column + 1) ∷ []
parts_of-move row column low near =
    slice_split_at (λ b. eqb b 59) (decimal (row + 1)) 59 (decimal (column + 1)) (decimal_not_semicolon (row + 1) (omega arith)) refl
    ∙ ap (λ (parts : List (List ℕ)). decimal (row + 1) ∷ parts) (slice_split_none (λ b. eqb b 59) (decimal (column + 1)) (decimal_not_semicolon (column + 1) (omega arith)))

-- ---- signs by their bytes

-- the number in part k, counted from 0
abbrev place_at : List (List ℕ) → ℕ → ℕ
place_at parts k = digits_value 10 (get_or parts k []) - 1

-- of the signs that set a mode of terminals or reset one, the one whose parameters are so long
abbrev mode_of : ℕ → Sign → Sign → Sign → Sign
mode_of n wrap cursor screen = cond (n == 2) wrap (cond (n == 3) cursor screen)

-- the sign that has this sequence, if one does
abbrev candidate : List ℕ → ℕ → Sign
candidate parameters final_byte =
    cond (final_byte == 72) (MoveTo (place_at (parts_of parameters) 0) (place_at (parts_of parameters) 1)) (cond (final_byte == 74) EraseScreen
    (cond (final_byte == 108) (mode_of (length parameters) NoWrap HideCursor LeaveAlternate) (cond (final_byte == 104) (mode_of (length parameters) Wrap ShowCursor EnterAlternate)
    (SetStyle (style_of (drop 1 parameters))))))

-- the sign other than a character that the bytes begin with, if they do
abbrev unspell : List ℕ → Sign
unspell bytes = read_sequence candidate (drop 2 bytes)

-- a sign that is no character
abbrev IsOther : Sign → Type 0
IsOther (Char c) = ⊥
IsOther _ = Unit {0}

-- a number, one more in decimal
number_back : (n : ℕ) → n < 2 ^ 16 → digits_value 10 (decimal (n + 1)) - 1 ≡ n
number_back n small = omega (arith, (decimal_is_IsNumeral (n + 1) (omega arith)).1)

-- a readable sign that is no character, read back from its bytes
unspell_other : (s : Sign) (x : List ℕ) → IsOther s → IsReadable s → unspell (spelling_of s ++ x) ≡ s
unspell_other (Char c) x o p = absurd o
unspell_other (MoveTo row column) x o p =
    sequence_is_read candidate (move_parameters row column) 72 x (move_is_parameters row column p.0 p.1) refl
    ∙ ap (λ (parts : List (List ℕ)). MoveTo (place_at parts 0) (place_at parts 1)) (parts_of-move row column p.0 p.1)
    ∙ (λ i. MoveTo (number_back row p.0 i) (number_back column p.1 i))
unspell_other (SetStyle style) x o p =
    sequence_is_read candidate (style_parameters style) 109 x (style_is_parameters style) refl ∙ ap SetStyle (style_of-codes style.bold style.foreground style.background)
unspell_other EraseScreen x o p = refl
unspell_other EnterAlternate x o p = refl
unspell_other LeaveAlternate x o p = refl
unspell_other HideCursor x o p = refl
unspell_other ShowCursor x o p = refl
unspell_other NoWrap x o p = refl
unspell_other Wrap x o p = refl

-- a sign other than a character begins with a control character
other_begins : (s : Sign) (x : List ℕ) → IsOther s → BeginsWithControl (spelling_of s ++ x)
other_begins (Char c) x o = absurd o
other_begins _ x o = (omega arith, omega arith, refl)

-- bytes begin with at most one readable sign
one_sign : (s t : Sign) (x y : List ℕ) → IsReadable s → IsReadable t → spelling_of s ++ x ≡ spelling_of t ++ y → (s ≡ t) × (x ≡ y)
one_sign (Char c) (Char d) x y p q e = let same = encode_same c d x y e in (ap (λ (b : ℕ). Char b) same.0, same.1)
one_sign (Char c) t x y p q e = absurd (no_char_begins c (spelling_of t ++ y) x p (other_begins t y tt) e)
one_sign s (Char d) x y p q e = absurd (no_char_begins d (spelling_of s ++ x) y q (other_begins s x tt) (sym e))
one_sign s t x y p q e = read_back_once spelling_of unspell s t x y (unspell_other s x tt p) (unspell_other t y tt q) e

-- no sign is spelled by no bytes
spells_something : (s : Sign) → 0 < length (spelling_of s)
spells_something (Char c) = omega (arith, length-encode c, len_utf8_bounds c)
spells_something _ = omega arith

-- no two lists of readable signs are spelled by the same bytes
pub one_spelling : (ss ts : List Sign) → AreReadable ss → AreReadable ts → spelling ss ≡ spelling ts → ss ≡ ts
one_spelling ss ts p q e = lists_have_one_spelling IsReadable spelling_of one_sign spells_something ss ts p q e
