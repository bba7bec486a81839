-- Signs of any kind that bytes spell: what one sign begins with, a sequence read back, and lists of signs.
use Rattle.std.proofs.Common.{◌≡◌, ℕ, ◌+◌, ◌<◌, ◌^◌, Bool, true, false, cond, eqb, List, [], ◌∷◌, ◌++◌, length, get_or, take, refl, sym, ap, ◌∙◌, append_assoc, length-append, arith}
use Rattle.std.specs.List.{All, AllByRecursion, flat_map, prefix_len}
use Rattle.std.specs.Str.Parse.{AllDigits}
use Rattle.std.specs.Char.{encode_utf8, is_control, digit_value}
use Rattle.std.specs.Fmt.{decimal}
use Rattle.std.proofs.lemmas.Bool.{both_ways}
use Rattle.std.proofs.lemmas.Bool.Decides.{nat_tests}
use Rattle.std.proofs.lemmas.Fmt.{decimal_is_IsNumeral}
use Rattle.std.proofs.lemmas.List.{take_at, get_or_at, append_cancel_left}
use Rattle.std.proofs.lemmas.List.Elements.{All-from_recursion}
use Rattle.std.proofs.lemmas.Str.{char_from_byte}
use Rattle.prodash_line.specs.plumbing.SignReading.{is_parameter}

-- ---- parameters

-- each of the bytes is a parameter byte
abbrev pub AllParameters : List ℕ → Type 0
AllParameters bytes = AllByRecursion (λ b. is_parameter b ≡ true) bytes

-- parameter bytes end before the first byte that is none
pub prefix_parameters : (p : List ℕ) (final_byte : ℕ) (x : List ℕ) → AllParameters p → is_parameter final_byte ≡ false → prefix_len is_parameter (p ++ final_byte ∷ x) ≡ length p
prefix_parameters [] final_byte x h e = ap (λ (b : Bool). cond b (1 + prefix_len is_parameter x) 0) e
prefix_parameters (b ∷ p) final_byte x h e = ap (λ (t : Bool). cond t (1 + prefix_len is_parameter (p ++ final_byte ∷ x)) 0) h.0 ∙ (let k = prefix_parameters p final_byte x h.1 e in omega arith)

-- a digit is a parameter byte
digit_parameter : (c : ℕ) → digit_value c < 10 → is_parameter c ≡ true
digit_parameter c h = grind (arith, nat_tests)

-- digits are parameter bytes
digits_parameters : (p : List ℕ) → AllDigits 10 p → AllParameters p
digits_parameters [] h = tt
digits_parameters (c ∷ p) h = (digit_parameter c h.0, digits_parameters p h.1)

-- and so is a number in decimal
pub decimal_parameters : (n : ℕ) → n < 2 ^ 64 → AllParameters (decimal n)
decimal_parameters n small = digits_parameters (decimal n) (decimal_is_IsNumeral n (omega arith)).0.1

-- digits are no semicolon
digit_not_semicolon : (c : ℕ) → digit_value c < 10 → eqb c 59 ≡ false
digit_not_semicolon c h = grind (arith, nat_tests)

digits_not_semicolon : (p : List ℕ) → AllDigits 10 p → AllByRecursion (λ b. eqb b 59 ≡ false) p
digits_not_semicolon [] h = tt
digits_not_semicolon (c ∷ p) h = (digit_not_semicolon c h.0, digits_not_semicolon p h.1)

-- so a number in decimal has none
pub decimal_not_semicolon : (n : ℕ) → n < 2 ^ 64 → All (λ b. eqb b 59 ≡ false) (decimal n)
decimal_not_semicolon n small = All-from_recursion (λ b. eqb b 59 ≡ false) (decimal n) (digits_not_semicolon (decimal n) (decimal_is_IsNumeral n (omega arith)).0.1)

-- ---- one sign

-- what a sequence at the beginning of bytes is read as, by its parameters and its final byte
abbrev pub read_sequence : {S : Type 0} → (List ℕ → ℕ → S) → List ℕ → S
read_sequence candidate bytes = candidate (take (prefix_len is_parameter bytes) bytes) (get_or bytes (prefix_len is_parameter bytes) 0)

-- its parameters and its final byte are those that it is spelled with
pub sequence_is_read : {S : Type 0} (candidate : List ℕ → ℕ → S) (parameters : List ℕ) (final_byte : ℕ) (x : List ℕ) → AllParameters parameters → is_parameter final_byte ≡ false
    → read_sequence candidate ((parameters ++ final_byte ∷ []) ++ x) ≡ candidate parameters final_byte
sequence_is_read candidate parameters final_byte x each other =
    let text : (parameters ++ final_byte ∷ []) ++ x ≡ parameters ++ final_byte ∷ x = append_assoc parameters (final_byte ∷ []) x in
    let size : prefix_len is_parameter (parameters ++ final_byte ∷ x) ≡ length parameters = prefix_parameters parameters final_byte x each other in
    ap (read_sequence candidate) text
    ∙ ap (λ (k : ℕ). candidate (take k (parameters ++ final_byte ∷ x)) (get_or (parameters ++ final_byte ∷ x) k 0)) size
    ∙ ap (λ (t : List ℕ). candidate t (get_or (parameters ++ final_byte ∷ x) (length parameters) 0)) (take_at parameters (final_byte ∷ x) (length parameters) refl)
    ∙ ap (candidate parameters) (get_or_at parameters final_byte x 0 (length parameters) refl)

-- bytes that begin with a control character of ASCII
abbrev pub BeginsWithControl : List ℕ → Type 0
BeginsWithControl bytes = (get_or bytes 0 0 < 128) × (0 < length bytes) × (is_control (get_or bytes 0 0) ≡ true)

-- begin with no other character
pub no_char_begins : (c : ℕ) (bytes x : List ℕ) → is_control c ≡ false → BeginsWithControl bytes → encode_utf8 c ++ x ≡ bytes → ⊥
no_char_begins c bytes x plain first e =
    let same : c ≡ get_or bytes 0 0 = char_from_byte bytes x c (sym e) first.0 first.1 in
    both_ways (is_control c) plain (ap is_control same ∙ first.2)

-- two signs that are read back from the same bytes are one, and the same follows it
pub read_back_once : {S : Type 0} (spelling_of : S → List ℕ) (unspell : List ℕ → S) (s t : S) (x y : List ℕ)
    → unspell (spelling_of s ++ x) ≡ s → unspell (spelling_of t ++ y) ≡ t → spelling_of s ++ x ≡ spelling_of t ++ y → (s ≡ t) × (x ≡ y)
read_back_once {S = S} spelling_of unspell s t x y p q e =
    let same : s ≡ t = sym p ∙ ap unspell e ∙ q in
    (same, append_cancel_left (spelling_of t) x y (ap (λ (u : S). spelling_of u ++ x) (sym same) ∙ e))

-- ---- lists of signs

-- bytes begin with at most one sign of this kind
abbrev pub BeginWithOne : (S : Type 0) → (S → Type 0) → (S → List ℕ) → Type 0
BeginWithOne S Good spelling_of = (s t : S) (x y : List ℕ) → Good s → Good t → spelling_of s ++ x ≡ spelling_of t ++ y → (s ≡ t) × (x ≡ y)

-- then no two lists of such signs are spelled by the same bytes, if no sign is spelled by none
pub lists_have_one_spelling : {S : Type 0} (Good : S → Type 0) (spelling_of : S → List ℕ) → BeginWithOne S Good spelling_of → ((s : S) → 0 < length (spelling_of s))
    → (ss ts : List S) → AllByRecursion Good ss → AllByRecursion Good ts → flat_map spelling_of ss ≡ flat_map spelling_of ts → ss ≡ ts
lists_have_one_spelling Good spelling_of one some [] [] p q e = refl
lists_have_one_spelling Good spelling_of one some [] (t ∷ ts) p q e = absurd (omega (arith, ap length e, length-append (spelling_of t) (flat_map spelling_of ts), some t))
lists_have_one_spelling Good spelling_of one some (s ∷ ss) [] p q e = absurd (omega (arith, ap length e, length-append (spelling_of s) (flat_map spelling_of ss), some s))
lists_have_one_spelling {S = S} Good spelling_of one some (s ∷ ss) (t ∷ ts) p q e =
    let same = one s t (flat_map spelling_of ss) (flat_map spelling_of ts) p.0 q.0 e in
    let rest : ss ≡ ts = lists_have_one_spelling Good spelling_of one some ss ts p.1 q.1 same.1 in
    ap (λ (u : S). u ∷ ss) same.0 ∙ ap (λ (us : List S). t ∷ us) rest
