-- Texts of one character, and of more.
use Rattle.std.proofs.Common.{◌≡◌, ◌∙◌, ◌++◌, ◌∷◌, [], ℕ, ◌≤◌, List, length, refl, sym, ap, arith}
use Rattle.std.specs.Prelude.{Some, None, encode_utf8_all}
use Rattle.std.specs.Char.{encode_utf8}
use Rattle.std.specs.Str.{chars, IsUtf8}
use Rattle.std.proofs.lemmas.Str.{chars-encodes, cons_from_encodes, length-le-encodes}
use Rattle.prodash_script.specs.DashboardLines.{only}

nothing : (es : List ℕ) → length es ≡ 0 → es ≡ []
nothing [] h = refl
nothing (e ∷ es) h = absurd (omega arith)

-- a text that begins with two characters
pub several : (bs r s : List ℕ) (c d : ℕ) → IsUtf8 bs → bs ≡ encode_utf8 c ++ r → r ≡ encode_utf8 d ++ s → only (chars bs) ≡ None
several bs r s c d u first second =
    let a = cons_from_encodes u.0 r c (u.1.1 ∙ first) in
    let b = cons_from_encodes a.0 s d (a.2 ∙ second) in
    let all : chars bs ≡ c ∷ d ∷ b.0 = sym (ap chars u.1.1) ∙ (chars-encodes u.0 u.1.0 ∙ (a.1 ∙ ap (λ es. c ∷ es) b.1)) in
    ap only all

-- a text that is one character
pub alone : (bs r : List ℕ) (c : ℕ) → IsUtf8 bs → bs ≡ encode_utf8 c ++ r → length r ≡ 0 → only (chars bs) ≡ Some c
alone bs r c u first ended =
    let a = cons_from_encodes u.0 r c (u.1.1 ∙ first) in
    let few : length a.0 ≤ length (encode_utf8_all a.0) = length-le-encodes a.0 in
    let same : length (encode_utf8_all a.0) ≡ length r = ap length a.2 in
    let none : length a.0 ≡ 0 = omega arith in
    let all : chars bs ≡ c ∷ [] = sym (ap chars u.1.1) ∙ (chars-encodes u.0 u.1.0 ∙ (a.1 ∙ ap (λ es. c ∷ es) (nothing a.0 none))) in
    ap only all
