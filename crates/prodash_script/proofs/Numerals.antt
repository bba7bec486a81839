-- Words of digits, and the numbers that they are parsed as.
use Rattle.std.proofs.Common.{◌≡◌, ℕ, suc, ◌+◌, ◌-◌, ◌*◌, ◌<◌, ◌≤◌, ◌^◌, true, false, nat_lt, List, [], ◌∷◌, length, drop, get_or, drop-cons, refl, sym, ap, ◌∙◌, arith}
use Rattle.std.specs.Prelude.{Some, None}
use Rattle.std.specs.Char.{digit_value, is_ascii_digit}
use Rattle.std.specs.Str.{all_ascii_digits}
use Rattle.std.specs.Str.Parse.{digits_value, digits_value_after}
use Rattle.std.proofs.Math.Bool.{and-false}
use Rattle.std.proofs.Math.ListN.{drop_of_length-le}
use Rattle.std.proofs.lemmas.Bool.Decides.{nat_tests}
use Rattle.std.proofs.lemmas.Str.Parse.{IsNumeralModel, numerals_by_value, tells_all_ascii_digits}
use Rattle.prodash_script.specs.Words.{is_number, number_of}

pub own : IsNumeralModel (λ ds. all_ascii_digits ds ≡ true) (digits_value 10)
own = numerals_by_value _ tells_all_ascii_digits

pub fits : (word : List ℕ) → is_number word ≡ true → digits_value 10 word < 2 ^ 64 → Some (digits_value 10 word) ≡ number_of word
fits word is small =
    let test : nat_lt (digits_value 10 word) (2 ^ 64) ≡ true = grind (arith, nat_tests) in
    rw (is, test)

-- a word of which digits that write n were read, so that a text is left
abbrev pub IsRead : List ℕ → ℕ → List ℕ → Type 0
IsRead word n rest = (all_ascii_digits word ≡ all_ascii_digits rest) × (digits_value 10 word ≡ digits_value_after 10 n rest)

digit : (b : ℕ) → is_ascii_digit b ≡ true → digit_value b ≡ b - 48
digit b is = grind (arith, nat_tests)

read_more : (word rest : List ℕ) → (n b : ℕ) → IsRead word n (b ∷ rest) → is_ascii_digit b ≡ true → IsRead word (n * 10 + (b - 48)) rest
read_more word rest n b h is = (h.0 ∙ rw is refl, h.1 ∙ rw (digit b is) refl)

-- more digits write no less
grows : (n : ℕ) → (ds : List ℕ) → n ≤ digits_value_after 10 n ds
grows n [] = omega arith
grows n (b ∷ ds) = let more = grows (n * 10 + digit_value b) ds in omega arith

pub too_large : (word : List ℕ) → (n i : ℕ) → IsRead word n (drop i word) → i < length word → is_ascii_digit (get_or word i 0) ≡ true → 2 ^ 64 ≤ n * 10 + (get_or word i 0 - 48) → number_of word ≡ None
too_large word n i h within is large =
    let left = rw (drop-cons word i 0) at h in
    let more = read_more word (drop (suc i) word) n (get_or word i 0) left is in
    let least = grows (n * 10 + (get_or word i 0 - 48)) (drop (suc i) word) in
    let value : 2 ^ 64 ≤ digits_value 10 word = rw more.1 (omega arith) in
    let test : nat_lt (digits_value 10 word) (2 ^ 64) ≡ false = grind (arith, nat_tests) in
    rw (test, and-false (is_number word)) refl

pub all_read : (word : List ℕ) → (n i : ℕ) → IsRead word n (drop i word) → length word ≤ i → 0 < length word → length word ≤ 20 → n < 2 ^ 64 → number_of word ≡ Some n
all_read word n i h end some short small =
    let left = rw (drop_of_length-le word end) at h in
    let is : is_number word ≡ true = grind (arith, nat_tests) in
    let value : digits_value 10 word < 2 ^ 64 = rw left.1 small in
    sym (fits word is value) ∙ ap Some left.1
