-- No sign's spelling begins another's, so proper signs have one spelling.
use Rattle.std.proofs.Common.{◌≡◌, ℕ, ◌<◌, ◌≤◌, true, cond, List, [], ◌∷◌, ◌++◌, length, drop, map, Option, Some, None, refl, sym, ap, ◌∙◌, append_assoc, length-append, arith}
use Rattle.std.specs.Prelude.{◌==◌}
use Rattle.std.specs.List.{AllByRecursion, join_with_byte}
use Rattle.std.specs.Str.Parse.{digits_value}
use Rattle.std.specs.Fmt.{decimal}
use Rattle.std.proofs.lemmas.Fmt.{decimal_is_IsNumeral}
use Rattle.std.proofs.lemmas.Str.{encode_same, length-encode, len_utf8_bounds}
use Rattle.prodash_line.specs.declared.render.line.page.sign.Sign.{Sign}
use Rattle.prodash_line.specs.declared.render.line.page.sign.Sign.TheVariants.{Char, LineFeed, CarriageReturn, Up, EraseLine, EraseBelow, HideCursor, ShowCursor, NoWrap, Wrap, BeginUpdate, EndUpdate, Open, Reset}
use Rattle.prodash_line.specs.declared.render.line.page.style.Style.{Style}
use Rattle.prodash_line.specs.Styles.{style_codes, style_parameters}
use Rattle.prodash_line.specs.Signs.{spelling_of, spelling, IsProper}
use Rattle.prodash_line.specs.Reading.{AreProper}
use Rattle.prodash_line.specs.plumbing.SignReading.{is_parameter, NoSignAt}
use Rattle.prodash_line.proofs.Lists.{AllByRecursion-append}
use Rattle.prodash_line.proofs.Spellings.{AllParameters, BeginsWithControl, decimal_parameters, lists_have_one_spelling, no_char_begins, read_back_once, read_sequence, sequence_is_read}
use Rattle.prodash_line.proofs.StyleCodes.{IsCode, are_codes, style_of, style_of-codes}
use Rattle.prodash_line.proofs.StyleParameters.{parts_of, codes_of_parameters}

-- the sign that begins a style, or ends all if there is none
abbrev styled : Option Style → Sign
styled None = Reset
styled (Some style) = Open style

-- of the signs that set a mode of terminals or reset one, the one whose parameters are so long: for wrapping, the cursor, or an update
abbrev mode_of : ℕ → Sign → Sign → Sign → Sign
mode_of n wrap cursor update = cond (n == 2) wrap (cond (n == 3) cursor update)

-- the sign that has this sequence, if one does
abbrev pub candidate : List ℕ → ℕ → Sign
candidate parameters final_byte =
    cond (final_byte == 65) (Up (digits_value 10 parameters)) (cond (final_byte == 75) EraseLine (cond (final_byte == 74) EraseBelow
    (cond (final_byte == 108) (mode_of (length parameters) NoWrap HideCursor EndUpdate) (cond (final_byte == 104) (mode_of (length parameters) Wrap ShowCursor BeginUpdate)
    (styled (style_of (map (digits_value 10) (parts_of parameters))))))))

-- the sign other than a character that the bytes begin with, if they do
abbrev pub unspell : List ℕ → Sign
unspell [] = LineFeed
unspell (b ∷ bytes) = cond (b == 10) LineFeed (cond (b == 13) CarriageReturn (read_sequence candidate (drop 1 bytes)))

-- a sign that is no character
abbrev pub IsOther : Sign → Type 0
IsOther (Char c) = ⊥
IsOther _ = Unit {0}

-- codes in decimal are parameter bytes, and so is `;`
codes_parameters : (codes : List ℕ) → AllByRecursion IsCode codes → AllParameters (join_with_byte 59 (map decimal codes))
codes_parameters [] h = tt
codes_parameters (code ∷ []) h = decimal_parameters code (omega arith)
codes_parameters (code ∷ next ∷ codes) h =
    AllByRecursion-append (λ b. is_parameter b ≡ true) (decimal code) _ (decimal_parameters code (omega arith)) (refl, codes_parameters (next ∷ codes) h.1)

pub style_is_parameters : (s : Style) → AllParameters (style_parameters s)
style_is_parameters s = codes_parameters (style_codes s) (are_codes s)

-- a sign that is no character, read back from its bytes
pub unspell_other : (s : Sign) (x : List ℕ) → IsOther s → IsProper s → unspell (spelling_of s ++ x) ≡ s
unspell_other (Char c) x o p = absurd o
unspell_other LineFeed x o p = refl
unspell_other CarriageReturn x o p = refl
unspell_other (Up n) x o p =
    sequence_is_read candidate (decimal n) 65 x (decimal_parameters n (omega arith)) refl ∙ ap (λ (m : ℕ). Up m) (decimal_is_IsNumeral n (omega arith)).1
unspell_other EraseLine x o p = refl
unspell_other EraseBelow x o p = refl
unspell_other HideCursor x o p = refl
unspell_other ShowCursor x o p = refl
unspell_other NoWrap x o p = refl
unspell_other Wrap x o p = refl
unspell_other BeginUpdate x o p = refl
unspell_other EndUpdate x o p = refl
unspell_other (Open style) x o p = sequence_is_read candidate (style_parameters style) 109 x (style_is_parameters style) refl ∙ ap (λ (codes : List ℕ). styled (style_of codes)) (codes_of_parameters style p) ∙ ap styled (style_of-codes style)
unspell_other Reset x o p = refl

-- a sign other than a character begins with a control character
other_begins : (s : Sign) (x : List ℕ) → IsOther s → BeginsWithControl (spelling_of s ++ x)
other_begins (Char c) x o = absurd o
other_begins _ x o = (omega arith, omega arith, refl)

-- bytes begin with at most one proper sign
pub one_sign : (s t : Sign) (x y : List ℕ) → IsProper s → IsProper t → spelling_of s ++ x ≡ spelling_of t ++ y → (s ≡ t) × (x ≡ y)
one_sign (Char c) (Char d) x y p q e = let same = encode_same c d x y e in (ap (λ (b : ℕ). Char b) same.0, same.1)
one_sign (Char c) t x y p q e = absurd (no_char_begins c (spelling_of t ++ y) x p.1 (other_begins t y tt) e)
one_sign s (Char d) x y p q e = absurd (no_char_begins d (spelling_of s ++ x) y q.1 (other_begins s x tt) (sym e))
one_sign s t x y p q e = read_back_once spelling_of unspell s t x y (unspell_other s x tt p) (unspell_other t y tt q) e

-- no sign is spelled by no bytes
pub spells_something : (s : Sign) → 0 < length (spelling_of s)
spells_something (Char c) = omega (arith, length-encode c, len_utf8_bounds c)
spells_something _ = omega arith

-- no two lists of proper signs spell the same bytes
pub one_spelling : (ss ts : List Sign) → AreProper ss → AreProper ts → spelling ss ≡ spelling ts → ss ≡ ts
one_spelling ss ts p q e = lists_have_one_spelling IsProper spelling_of one_sign spells_something ss ts p q e

-- if the rest begins with no sign, signs spell no longer prefix
pub longest_prefix : (ss ts : List Sign) (rest y : List ℕ) → AreProper ss → AreProper ts → NoSignAt rest → spelling ss ++ rest ≡ spelling ts ++ y → length (spelling ts) ≤ length (spelling ss)
longest_prefix ss [] rest y p q none e = omega arith
longest_prefix [] (t ∷ ts) rest y p q none e = absurd (none t (spelling ts ++ y) q.0 (e ∙ append_assoc (spelling_of t) (spelling ts) y))
longest_prefix (s ∷ ss) (t ∷ ts) rest y p q none e =
    let same = one_sign s t (spelling ss ++ rest) (spelling ts ++ y) p.0 q.0 (sym (append_assoc (spelling_of s) (spelling ss) rest) ∙ e ∙ append_assoc (spelling_of t) (spelling ts) y) in
    let less : length (spelling ts) ≤ length (spelling ss) = longest_prefix ss ts rest y p.1 q.1 none same.1 in
    let size : length (spelling_of s) ≡ length (spelling_of t) = ap (λ (u : Sign). length (spelling_of u)) same.0 in
    omega (arith, length-append (spelling_of s) (spelling ss), length-append (spelling_of t) (spelling ts))
