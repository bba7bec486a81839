-- Which sign bytes begin with, and the longest prefix that signs spell.
use Rattle.std.proofs.Common.{◌≡◌, ℕ, ◌+◌, ◌-◌, ◌<◌, ◌≤◌, ◌≢◌, true, false, List, [], ◌∷◌, ◌++◌, length, get_or, take, drop, refl, sym, ap, ◌∙◌, append_assoc, length-append, arith, nat_eq}
use Rattle.std.specs.Cmp.Lexicographic.{pointwise}
use Rattle.std.specs.List.{prefix_len}
use Rattle.std.specs.Char.{encode_utf8, is_control, IsScalar}
use Rattle.std.specs.Fmt.{decimal}
use Rattle.std.proofs.lemmas.Bool.{both_ways}
use Rattle.std.proofs.lemmas.List.{take-append-drop, take_at, get_or_at, length-take-le, append-nil, nil_from_length}
use Rattle.std.proofs.lemmas.Str.{char_from_byte, encode_same}
use Rattle.prodash_line.specs.declared.render.line.page.sign.Sign.{Sign}
use Rattle.prodash_line.specs.declared.render.line.page.sign.Sign.TheVariants.{Char, LineFeed, CarriageReturn, Up, EraseLine, EraseBelow, HideCursor, ShowCursor, NoWrap, Wrap, BeginUpdate, EndUpdate, Open, Reset}
use Rattle.prodash_line.specs.Styles.{style_parameters}
use Rattle.prodash_line.specs.Signs.{spelling_of, spelling, sequence, IsProper}
use Rattle.prodash_line.specs.Reading.{AreProper, IsLongestPrefix}
use Rattle.prodash_line.specs.plumbing.SignReading.{is_parameter, MakesNone, NoSequenceAt, NoSignAt}
use Rattle.prodash_line.proofs.OneSpelling.{style_is_parameters, spells_something, longest_prefix, one_spelling}
use Rattle.prodash_line.proofs.Spellings.{AllParameters, decimal_parameters, prefix_parameters}

-- the sequence of this sign, after ESC and an opening bracket
record BeginsSequence (bytes : List ℕ) (s : Sign) (rest : List ℕ) : Type 0 where
  parameters : List ℕ
  final_byte : ℕ
  is : spelling_of s ≡ sequence parameters final_byte
  whole : bytes ≡ parameters ++ final_byte ∷ rest
  len : prefix_len is_parameter bytes ≡ length parameters

-- a sequence, by its parameters and its final byte
sequence_begins : (parameters : List ℕ) (final_byte : ℕ) (s : Sign) (bytes rest : List ℕ) → spelling_of s ≡ sequence parameters final_byte → AllParameters parameters → is_parameter final_byte ≡ false → 27 ∷ 91 ∷ bytes ≡ spelling_of s ++ rest → BeginsSequence bytes s rest
sequence_begins parameters final_byte s bytes rest is each other e =
    let whole : bytes ≡ parameters ++ final_byte ∷ rest = ap (λ (t : List ℕ). drop 2 t) (e ∙ ap (λ (t : List ℕ). t ++ rest) is) ∙ append_assoc parameters (final_byte ∷ []) rest in
    record { parameters = parameters; final_byte = final_byte; is = is; whole = whole; len = ap (prefix_len is_parameter) whole ∙ prefix_parameters parameters final_byte rest each other }

-- a proper sign that begins with ESC and an opening bracket is a sequence
begins_sequence : (s : Sign) (bytes rest : List ℕ) → IsProper s → 27 ∷ 91 ∷ bytes ≡ spelling_of s ++ rest → BeginsSequence bytes s rest
begins_sequence (Char c) bytes rest p e =
    let same : c ≡ 27 = char_from_byte (27 ∷ 91 ∷ bytes) rest c e (omega arith) (omega arith) in
    absurd (both_ways (is_control c) p.1 (ap is_control same))
begins_sequence LineFeed bytes rest p e = absurd (omega (arith, ap (λ (t : List ℕ). get_or t 0 0) e))
begins_sequence CarriageReturn bytes rest p e = absurd (omega (arith, ap (λ (t : List ℕ). get_or t 0 0) e))
begins_sequence (Up n) bytes rest p e = sequence_begins (decimal n) 65 (Up n) bytes rest refl (decimal_parameters n (omega arith)) refl e
begins_sequence EraseLine bytes rest p e = sequence_begins (50 ∷ []) 75 EraseLine bytes rest refl (refl, tt) refl e
begins_sequence EraseBelow bytes rest p e = sequence_begins [] 74 EraseBelow bytes rest refl tt refl e
begins_sequence HideCursor bytes rest p e = sequence_begins (63 ∷ 50 ∷ 53 ∷ []) 108 HideCursor bytes rest refl (refl, (refl, (refl, tt))) refl e
begins_sequence ShowCursor bytes rest p e = sequence_begins (63 ∷ 50 ∷ 53 ∷ []) 104 ShowCursor bytes rest refl (refl, (refl, (refl, tt))) refl e
begins_sequence NoWrap bytes rest p e = sequence_begins (63 ∷ 55 ∷ []) 108 NoWrap bytes rest refl (refl, (refl, tt)) refl e
begins_sequence Wrap bytes rest p e = sequence_begins (63 ∷ 55 ∷ []) 104 Wrap bytes rest refl (refl, (refl, tt)) refl e
begins_sequence BeginUpdate bytes rest p e = sequence_begins (63 ∷ 50 ∷ 48 ∷ 50 ∷ 54 ∷ []) 104 BeginUpdate bytes rest refl (refl, (refl, (refl, (refl, (refl, tt))))) refl e
begins_sequence EndUpdate bytes rest p e = sequence_begins (63 ∷ 50 ∷ 48 ∷ 50 ∷ 54 ∷ []) 108 EndUpdate bytes rest refl (refl, (refl, (refl, (refl, (refl, tt))))) refl e
begins_sequence (Open style) bytes rest p e = sequence_begins (style_parameters style) 109 (Open style) bytes rest refl (style_is_parameters style) refl e
begins_sequence Reset bytes rest p e = sequence_begins (48 ∷ []) 109 Reset bytes rest refl (refl, tt) refl e

-- parameter bytes alone are no sequence
pub none_short : (bytes : List ℕ) → length bytes ≤ prefix_len is_parameter bytes → NoSequenceAt bytes
none_short bytes h s rest p e =
    let there = begins_sequence s bytes rest p e in
    omega (arith, there.len, ap length there.whole, length-append there.parameters (there.final_byte ∷ rest))

-- nor is one that no sign has
pub none_made : (bytes : List ℕ) (len : ℕ) → len ≡ prefix_len is_parameter bytes → MakesNone (take len bytes) (get_or bytes len 0) → NoSequenceAt bytes
none_made bytes len l none s rest p e =
    let there = begins_sequence s bytes rest p e in
    let size : length there.parameters ≡ len = sym there.len ∙ sym l in
    let prefix : take len bytes ≡ there.parameters = ap (take len) there.whole ∙ take_at there.parameters (there.final_byte ∷ rest) len size in
    let last : get_or bytes len 0 ≡ there.final_byte = ap (λ (t : List ℕ). get_or t len 0) there.whole ∙ get_or_at there.parameters there.final_byte rest 0 len size in
    none s p (there.is ∙ ap (λ (t : List ℕ). sequence t there.final_byte) (sym prefix) ∙ ap (sequence (take len bytes)) (sym last))

-- no sign, if the bytes begin with no line feed, no carriage return, no sequence and only a control character
pub no_sign : (bytes : List ℕ) → get_or bytes 0 0 ≢ 10 → get_or bytes 0 0 ≢ 13 → (get_or bytes 0 0 ≡ 27 → get_or bytes 1 0 ≢ 91)
    → ((c : ℕ) (rest : List ℕ) → IsScalar c → is_control c ≡ false → bytes ≡ encode_utf8 c ++ rest → ⊥) → NoSignAt bytes
no_sign bytes feed return seq char (Char c) rest p e = char c rest p.0 p.1 e
no_sign bytes feed return seq char LineFeed rest p e = feed (ap (λ (t : List ℕ). get_or t 0 0) e)
no_sign bytes feed return seq char CarriageReturn rest p e = return (ap (λ (t : List ℕ). get_or t 0 0) e)
no_sign bytes feed return seq char _ rest p e = seq (ap (λ (t : List ℕ). get_or t 0 0) e) (ap (λ (t : List ℕ). get_or t 1 0) e)

-- no bytes begin with no sign
pub none_empty : (bytes : List ℕ) → length bytes ≡ 0 → NoSignAt bytes
none_empty bytes h s rest p e = omega (arith, ap length e, length-append (spelling_of s) rest, spells_something s)

-- nor does ESC without an opening bracket
pub no_escape : (bytes : List ℕ) → 0 < length bytes → get_or bytes 0 0 ≡ 27 → get_or bytes 1 0 ≢ 91 → NoSignAt bytes
no_escape bytes some first second = no_sign bytes (λ e. omega arith) (λ e. omega arith) (λ e. second) (λ c rest scalar plain e.
    both_ways (is_control c) plain (ap is_control (char_from_byte bytes rest c e (omega arith) some ∙ first)))

-- a test that finds no ESC and bracket, though the first byte is ESC
pub no_bracket : (bytes : List ℕ) → pointwise nat_eq (take 2 bytes) (27 ∷ 91 ∷ []) ≡ false → 0 < length bytes → get_or bytes 0 0 ≡ 27 → get_or bytes 1 0 ≢ 91
no_bracket [] h some first second = omega arith
no_bracket (b ∷ []) h some first second = omega arith
no_bracket (b ∷ c ∷ bytes) h some first second = both_ways (pointwise nat_eq (b ∷ c ∷ []) (27 ∷ 91 ∷ [])) h
    (ap (λ (x : ℕ). pointwise nat_eq (x ∷ c ∷ []) (27 ∷ 91 ∷ [])) first ∙ ap (λ (x : ℕ). pointwise nat_eq (27 ∷ x ∷ []) (27 ∷ 91 ∷ [])) second)

-- nor does another control character
pub no_control : (bytes rest : List ℕ) (c : ℕ) → get_or bytes 0 0 ≢ 10 → get_or bytes 0 0 ≢ 13 → get_or bytes 0 0 ≢ 27 → bytes ≡ encode_utf8 c ++ rest → is_control c ≡ true → NoSignAt bytes
no_control bytes rest c feed return escape spelled control = no_sign bytes feed return (λ e. absurd (escape e)) (λ d others scalar plain e.
    both_ways (is_control d) plain (ap is_control (encode_same d c others rest (sym e ∙ spelled)).0 ∙ control))

-- after a sign fewer bytes are left
pub shorter : (bytes rest : List ℕ) (s : Sign) → bytes ≡ spelling_of s ++ rest → length rest < length bytes
shorter bytes rest s e = omega (arith, ap length e, length-append (spelling_of s) rest, spells_something s)

-- signs spell the longest prefix if the rest begins with no sign
pub longest_is : (bytes rest : List ℕ) (signs : List Sign) → AreProper signs → bytes ≡ spelling signs ++ rest → 0 < length rest → NoSignAt rest → IsLongestPrefix bytes (length bytes - length rest)
longest_is bytes rest signs proper spelled some none =
    let size : length bytes ≡ length (spelling signs) + length rest = ap length spelled ∙ length-append (spelling signs) rest in
    let n : length (spelling signs) ≡ length bytes - length rest = omega arith in
    record {
      signs = signs;
      proper = proper;
      spells = sym (ap (take (length bytes - length rest)) spelled ∙ take_at (spelling signs) rest (length bytes - length rest) n);
      short = omega arith;
      longest = λ others m p fits e.
          let whole : spelling signs ++ rest ≡ spelling others ++ drop m bytes = sym spelled ∙ sym (take-append-drop m bytes) ∙ ap (λ (t : List ℕ). t ++ drop m bytes) (sym e) in
          let less : length (spelling others) ≤ length (spelling signs) = longest_prefix signs others rest (drop m bytes) proper p none whole in
          let taken : length (take m bytes) ≡ m = length-take-le m bytes fits in
          omega (arith, ap length e);
    }

-- then no proper signs spell all bytes
pub none_whole : (bytes rest : List ℕ) (signs others : List Sign) → AreProper signs → bytes ≡ spelling signs ++ rest → 0 < length rest → NoSignAt rest → AreProper others → spelling others ≡ bytes → ⊥
none_whole bytes rest signs others proper spelled some none p e =
    let less : length (spelling others) ≤ length (spelling signs) = longest_prefix signs others rest [] proper p none (sym spelled ∙ sym e ∙ sym (append-nil (spelling others))) in
    omega (arith, ap length e, ap length spelled, length-append (spelling signs) rest)

-- and if no rest is left, they are the only ones that spell the bytes
pub all_read : (bytes rest : List ℕ) (signs others : List Sign) → AreProper signs → bytes ≡ spelling signs ++ rest → length rest ≡ 0 → AreProper others → spelling others ≡ bytes → signs ≡ others
all_read bytes rest signs others proper spelled none p e = one_spelling signs others proper p
    (sym (append-nil (spelling signs)) ∙ ap (λ (t : List ℕ). spelling signs ++ t) (sym (nil_from_length rest none)) ∙ sym spelled ∙ sym e)
