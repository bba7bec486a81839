-- The cells of a bar without a bound, written one after another.
use Rattle.std.proofs.Common.{◌≡◌, ℕ, suc, ◌+◌, ◌-◌, ◌%◌, ◌<◌, ◌≤◌, Bool, true, false, cond, List, [], ◌∷◌, ◌++◌, length, take, map, append_assoc, ⊎_elim, refl, sym, ap, ◌∙◌, arith, length-append}
use Rattle.std.specs.Prelude.{zero, nat_lt, reverse}
use Rattle.std.specs.List.{range_with_len}
use Rattle.std.proofs.lemmas.List.{map-append, take-append-le, take_all}
use Rattle.std.proofs.lemmas.Bool.{cases_lt}
use Rattle.std.proofs.lemmas.Grind.{reverse_onto}
use Rattle.prodash_line.specs.ProgressRows.{numbered_cell, numbered_cells}
use Rattle.prodash_line.specs.plumbing.Writing.{is_printable}
use Rattle.prodash_line.proofs.Columns.{printable-append}

printable_either : (b : Bool) → is_printable (cond b 61 32 ∷ []) ≡ true
printable_either true = refl
printable_either false = refl

pub printable-numbered_cell : (number : ℕ) → is_printable (numbered_cell number ∷ []) ≡ true
printable-numbered_cell number = printable_either (nat_lt (number % 6) 3)

-- the cell of the first number is the last one
numbered_cells-suc : (number n : ℕ) → numbered_cells number (suc n) ≡ numbered_cells (number + 1) n ++ numbered_cell number ∷ []
numbered_cells-suc number n =
    let above = range_with_len (number + 1) n in
    ap (map numbered_cell) (reverse_onto above number []) ∙ map-append numbered_cell (reverse above) (number ∷ [])

pub printable-numbered_cells : (number n : ℕ) → is_printable (numbered_cells number n) ≡ true
printable-numbered_cells number zero = refl
printable-numbered_cells number (suc n) =
    ap is_printable (numbered_cells-suc number n)
    ∙ printable-append (numbered_cells (number + 1) n) (numbered_cell number ∷ []) (printable-numbered_cells (number + 1) n) (printable-numbered_cell number)

pub length-numbered_cells : (number n : ℕ) → length (numbered_cells number n) ≡ n
length-numbered_cells number zero = refl
length-numbered_cells number (suc n) =
    omega (arith, ap length (numbered_cells-suc number n), length-append (numbered_cells (number + 1) n) (numbered_cell number ∷ []), length-numbered_cells (number + 1) n)

-- the first k of n cells are those of the last k numbers
pub take-numbered_cells : (k number n : ℕ) → k ≤ n → take k (numbered_cells number n) ≡ numbered_cells (number + n - k) k
take-numbered_cells k number zero l =
    let none : k ≡ 0 = omega arith in
    ap (λ j. take j (numbered_cells number 0)) none ∙ ap (λ j. numbered_cells (number + 0 - j) j) (sym none)
take-numbered_cells k number (suc n) l = ⊎_elim
    (λ (few : k < suc n).
    ap (take k) (numbered_cells-suc number n)
    ∙ take-append-le k (numbered_cells (number + 1) n) (numbered_cell number ∷ []) (omega (arith, length-numbered_cells (number + 1) n))
    ∙ take-numbered_cells k (number + 1) n (omega arith)
    ∙ ap (λ j. numbered_cells j k) (let e : number + 1 + n - k ≡ number + suc n - k = omega arith in e))
    (λ (all : suc n ≤ k).
    let same : k ≡ suc n = omega arith in
    take_all k (numbered_cells number (suc n)) (omega (arith, length-numbered_cells number (suc n)))
    ∙ ap (numbered_cells number) (sym same) ∙ ap (λ j. numbered_cells j k) (let e : number ≡ number + suc n - k = omega arith in e))
    (cases_lt k (suc n))

pub cells_counted : (step end count k : ℕ) → k ≡ count → count ≤ end - step → step ≤ end
    → numbered_cells (end - k) (end - (end - k)) ≡ take count (numbered_cells step (end - step))
cells_counted step end count k e l up =
    ap (λ j. numbered_cells (end - k) j) (let same : end - (end - k) ≡ count = omega arith in same)
    ∙ ap (λ j. numbered_cells j count) (let same : end - k ≡ step + (end - step) - count = omega arith in same)
    ∙ sym (take-numbered_cells count step (end - step) l)

-- the cell of the next number down
pub one_cell_more : (a b c : List ℕ) (number above end cell : ℕ) → above ≡ number + 1 → above ≤ end → cell ≡ numbered_cell number
    → b ≡ a ++ numbered_cells above (end - above) → c ≡ b ++ take 1 (cell ∷ []) → c ≡ a ++ numbered_cells number (end - number)
one_cell_more a b c number above end cell next within is h i =
    let n = end - (number + 1) in
    let more : suc n ≡ end - number = omega arith in
    i ∙ ap (λ k. b ++ k ∷ []) is ∙ ap (λ t. t ++ numbered_cell number ∷ []) (h ∙ ap (λ k. a ++ numbered_cells k (end - k)) next)
    ∙ append_assoc a (numbered_cells (number + 1) n) (numbered_cell number ∷ [])
    ∙ ap (λ t. a ++ t) (sym (numbered_cells-suc number n) ∙ ap (numbered_cells number) more)
