-- Which character bytes begin with.
use Rattle.std.proofs.Common.{◌≡◌, ℕ, ◌+◌, ◌-◌, ◌<◌, ◌≤◌, List, ◌++◌, length, take, drop, refl, sym, ap, subst, ◌∙◌, append_assoc, arith}
use Rattle.std.specs.Prelude.{min}
use Rattle.std.specs.Char.{encode_utf8, len_utf8}
use Rattle.std.specs.Str.{IsUtf8}
use Rattle.std.proofs.lemmas.List.{take-append-drop, take_rest, take-take, take_at, length-take}
use Rattle.std.proofs.lemmas.List.Prefix.{front_fits}
use Rattle.std.proofs.lemmas.Str.{drop_past_char, IsUtf8-encode, length-encode, len_utf8_bounds}
use Rattle.prodash_line.specs.plumbing.SignReading.{NoCharAt}

-- bytes begin with the first character of a text that they begin with
pub char_begins : (bytes text r t : List ℕ) (c n k : ℕ) → take n bytes ≡ text ++ r → text ≡ encode_utf8 c ++ t → k ≡ len_utf8 c
    → bytes ≡ encode_utf8 c ++ take (length bytes - k) (drop k bytes)
char_begins bytes text r t c n k prefix begins e =
    let whole : bytes ≡ encode_utf8 c ++ (t ++ (r ++ drop n bytes)) =
    sym (take-append-drop n bytes) ∙ ap (λ (x : List ℕ). x ++ drop n bytes) (prefix ∙ ap (λ (x : List ℕ). x ++ r) begins)
    ∙ append_assoc (encode_utf8 c ++ t) r (drop n bytes) ∙ append_assoc (encode_utf8 c) t (r ++ drop n bytes) in
    whole ∙ ap (λ (x : List ℕ). encode_utf8 c ++ x) (sym (take_rest bytes k ∙ ap (λ (j : ℕ). drop j bytes) (let f : k ≡ 0 + len_utf8 c = omega arith in f) ∙ drop_past_char bytes (t ++ (r ++ drop n bytes)) 0 c whole))

-- they begin with no character if none of their prefixes of up to four bytes is text
pub no_char : (bytes : List ℕ) (n : ℕ) → n ≡ min (length bytes) 4 → ((m : ℕ) → 0 < m → m ≤ length (take n bytes) → IsUtf8 (take m (take n bytes)) → ⊥) → NoCharAt bytes
no_char bytes n e longest c rest scalar begun =
    let size : length (encode_utf8 c) ≡ len_utf8 c = length-encode c in
    let bounds = len_utf8_bounds c in
    let fits : length (encode_utf8 c) ≤ length bytes = front_fits bytes (encode_utf8 c) rest begun in
    let size_of_prefix : length (take n bytes) ≡ min n (length bytes) = length-take n bytes in
    let same : take (length (encode_utf8 c)) (take n bytes) ≡ encode_utf8 c =
    take-take (length (encode_utf8 c)) n bytes (omega arith) ∙ ap (take (length (encode_utf8 c))) begun ∙ take_at (encode_utf8 c) rest (length (encode_utf8 c)) refl in
    longest (length (encode_utf8 c)) (omega arith) (omega arith) (subst IsUtf8 (sym same) (IsUtf8-encode c scalar))
