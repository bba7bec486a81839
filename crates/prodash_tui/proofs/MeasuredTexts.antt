-- A text has no more columns than two for each of its bytes.
use Rattle.std.proofs.Common.{◌≡◌, ℕ, ◌*◌, ◌≤◌, List, [], ◌∷◌, length, chars, encode_utf8, encode_utf8_all, ap, length-append, arith}
use Rattle.std.specs.Str.{IsUtf8}
use Rattle.std.proofs.lemmas.List.{length-map}
use Rattle.std.proofs.lemmas.Str.{encodes-chars, len_utf8_bounds, length-encode}
use Rattle.prodash_line.specs.CellRows.{char_columns, text_columns}
use Rattle.prodash_line.specs.DrawnLines.{safe_char}
use Rattle.prodash_tui.specs.Texts.{drawn_text}

two_each : (columns : ℕ → ℕ) (text : List ℕ) → text_columns columns text ≤ 2 * length text
two_each columns [] = omega arith
two_each columns (c ∷ text) = omega (arith, two_each columns text)

byte_each : (text : List ℕ) → length text ≤ length (encode_utf8_all text)
byte_each [] = omega arith
byte_each (c ∷ text) = omega (arith, length-encode c, (len_utf8_bounds c).0, length-append (encode_utf8 c) (encode_utf8_all text), byte_each text)

pub columns_of_bytes : (text : List ℕ) → IsUtf8 text → text_columns char_columns (drawn_text text) ≤ 2 * length text
columns_of_bytes text utf8 =
    let drawn : length (drawn_text text) ≡ length (chars text) = length-map (chars text) safe_char in
    let bytes : length (encode_utf8_all (chars text)) ≡ length text = ap length (encodes-chars text utf8) in
    omega (arith, two_each char_columns (drawn_text text), byte_each (chars text))
