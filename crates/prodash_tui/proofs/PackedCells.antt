-- A cell is the one that its number gives back.
use Rattle.std.proofs.Common.{◌≡◌, ℕ, zero, suc, ◌+◌, ◌-◌, ◌*◌, ◌/◌, ◌%◌, ◌<◌, ◌≤◌, nat_eq, Bool, true, false, cond, Option, Some, None, List, [], ◌∷◌, length, slice_get, refl, sym, ap, subst, ◌∙◌, ⊎_elim, lit<, zero-add, arith}
use Rattle.std.proofs.Math.Nat.{add-mul-mod_self_left, add-mul-div_left, mod-eq_of_lt, div-eq_of_lt}
use Rattle.std.proofs.Math.Utf8.{scalar_cases}
use Rattle.std.proofs.lemmas.Bool.{ne_eqb}
use Rattle.std.proofs.lemmas.Bool.Decides.{eqb_tells}
use Rattle.std.specs.Char.{IsScalar}
use Rattle.std.specs.List.{AllByRecursion}
use Rattle.prodash_base.specs.plumbing.EqualityTests.{itself, sound}
use Rattle.prodash_tui.specs.declared.cell.Cell.{Cell}
use Rattle.prodash_tui.specs.declared.cell.Cell.TheVariants.{Holds, Half}
use Rattle.prodash_tui.specs.declared.style.Color.{Color}
use Rattle.prodash_tui.specs.declared.style.Color.TheVariants.{Black, Red, Green, Yellow, White, LightRed}
use Rattle.prodash_tui.specs.declared.style.Style.{Style}
use Rattle.prodash_tui.specs.Cells.{same_cell}
use Rattle.prodash_tui.specs.plumbing.PackedCells.{HasRoom, IsPacked, IsScalarIfAny, color_digit, color_of_digit, digit_at, packed_cell, packed_chars, style_digit, style_of_digit, unpacked_cell, unpacked_chars}
use Rattle.prodash_tui.specs.plumbing.SameCells as same

-- ---- digits

pub last_digit : (a n b : ℕ) → a < b → (a + b * n) % b ≡ a
last_digit a n b low = add-mul-mod_self_left a b n ∙ mod-eq_of_lt low

pub other_digits : (a n b : ℕ) → a < b → (a + b * n) / b ≡ n
other_digits a n b low = add-mul-div_left a n (omega (arith, low)) ∙ ap (λ q. q + n) (div-eq_of_lt low) ∙ zero-add n

pub scalar_low : (c : ℕ) → IsScalar c → c + 1 < 0x20_0000
scalar_low c h = ⊎_elim (λ low. omega (arith, low)) (λ high. omega (arith, high.1)) (scalar_cases c h)

nonzero : (c : ℕ) → nat_eq (c + 1) 0 ≡ false
nonzero c = ne_eqb (c + 1) 0 (λ h. omega (arith, h))

one_less : (c : ℕ) → c + 1 - 1 ≡ c
one_less c = omega arith

-- ---- colours and styles

color_back : (x : Option Color) → color_of_digit (color_digit x) ≡ x
color_back None = refl
color_back (Some Black) = refl
color_back (Some Red) = refl
color_back (Some Green) = refl
color_back (Some Yellow) = refl
color_back (Some White) = refl
color_back (Some LightRed) = refl

color_low : (x : Option Color) → color_digit x < 8
color_low None = lit< tt
color_low (Some Black) = lit< tt
color_low (Some Red) = lit< tt
color_low (Some Green) = lit< tt
color_low (Some Yellow) = lit< tt
color_low (Some White) = lit< tt
color_low (Some LightRed) = lit< tt

bit_low : (b : Bool) → cond b 1 0 < 2
bit_low true = lit< tt
bit_low false = lit< tt

bit_back : (b : Bool) → nat_eq (cond b 1 0) 1 ≡ b
bit_back true = refl
bit_back false = refl

pub style_low : (s : Style) → style_digit s < 128
style_low s = omega (arith, bit_low s.bold, color_low s.foreground, color_low s.background)

pub style_back : (s : Style) → style_of_digit (style_digit s) ≡ s
style_back s =
    let bit = cond s.bold 1 0 in
    let front = color_digit s.foreground in
    let back = color_digit s.background in
    let colors = other_digits bit (front + 8 * back) 2 (bit_low s.bold) in
    let bold = ap (λ d. nat_eq d 1) (last_digit bit (front + 8 * back) 2 (bit_low s.bold)) ∙ bit_back s.bold in
    let foreground = ap (λ n. color_of_digit (n % 8)) colors ∙ ap color_of_digit (last_digit front back 8 (color_low s.foreground)) ∙ color_back s.foreground in
    let background = ap (λ n. color_of_digit (n / 8)) colors ∙ ap color_of_digit (other_digits front back 8 (color_low s.foreground)) ∙ color_back s.background in
    λ i. record { bold = bold i; foreground = foreground i; background = background i }

-- ---- characters

-- the characters of a digit and of those behind it
abbrev chars_by : ℕ → ℕ → ℕ → List ℕ
chars_by most digit others = cond (nat_eq digit 0) [] ((digit - 1) ∷ unpacked_chars most others)

one_more : (most c m : ℕ) → chars_by most (c + 1) m ≡ c ∷ unpacked_chars most m
one_more most c m =
    ap (λ is. cond is [] ((c + 1 - 1) ∷ unpacked_chars most m)) (nonzero c) ∙ ap (λ d. d ∷ unpacked_chars most m) (one_less c)

pub chars_back : (most : ℕ) (js : List ℕ) → length js ≤ most → AllByRecursion IsScalar js → unpacked_chars most (packed_chars js) ≡ js
chars_back zero [] few all = refl
chars_back zero (c ∷ js) few all = absurd (omega (arith, few))
chars_back (suc most) [] few all = refl
chars_back (suc most) (c ∷ js) few all =
    let low = scalar_low c all.0 in
    let m = packed_chars js in
    (λ i. chars_by most (last_digit (c + 1) m 0x20_0000 low i) (other_digits (c + 1) m 0x20_0000 low i))
    ∙ one_more most c m
    ∙ ap (λ rest. c ∷ rest) (chars_back most js (omega (arith, few)) all.1)

-- the four digits of characters
pub four_digits : (js : List ℕ) → length js ≤ 4
    → digit_at js 0 + 0x20_0000 * (digit_at js 1 + 0x20_0000 * (digit_at js 2 + 0x20_0000 * digit_at js 3)) ≡ packed_chars js
four_digits [] few = refl
four_digits (a ∷ []) few = omega arith
four_digits (a ∷ b ∷ []) few = omega arith
four_digits (a ∷ b ∷ c ∷ []) few = omega arith
four_digits (a ∷ b ∷ c ∷ d ∷ []) few = omega arith
four_digits (a ∷ b ∷ c ∷ d ∷ e ∷ js) few = absurd (omega (arith, few))

-- their four places have characters of Unicode, and so all of them are such
pub four_scalars : (js : List ℕ) → length js ≤ 4
    → IsScalarIfAny (slice_get js 0) → IsScalarIfAny (slice_get js 1) → IsScalarIfAny (slice_get js 2) → IsScalarIfAny (slice_get js 3) → AllByRecursion IsScalar js
four_scalars [] few p q r s = tt
four_scalars (a ∷ []) few p q r s = (p, tt)
four_scalars (a ∷ b ∷ []) few p q r s = (p, (q, tt))
four_scalars (a ∷ b ∷ c ∷ []) few p q r s = (p, (q, (r, tt)))
four_scalars (a ∷ b ∷ c ∷ d ∷ []) few p q r s = (p, (q, (r, (s, tt))))
four_scalars (a ∷ b ∷ c ∷ d ∷ e ∷ js) few p q r s = absurd (omega (arith, few))

-- the next digit is that of a character, and is the first of those that are left
pub next_char : (most n : ℕ) → nat_eq (n % 0x20_0000) 0 ≡ false → unpacked_chars (suc most) n ≡ (n % 0x20_0000 - 1) ∷ unpacked_chars most (n / 0x20_0000)
next_char most n h = ap (λ is. cond is [] ((n % 0x20_0000 - 1) ∷ unpacked_chars most (n / 0x20_0000))) h

pub no_char : (most n : ℕ) → nat_eq (n % 0x20_0000) 0 ≡ true → unpacked_chars most n ≡ []
no_char zero n h = refl
no_char (suc most) n h = ap (λ is. cond is [] ((n % 0x20_0000 - 1) ∷ unpacked_chars most (n / 0x20_0000))) h

-- ---- cells

-- the cell of its character's digit and of those behind it
abbrev cell_by : ℕ → ℕ → Cell
cell_by digit look = cond (nat_eq digit 0) Half (Holds (digit - 1) (unpacked_chars 4 (look / 128)) (style_of_digit (look % 128)))

pub cell_back : (x : Cell) → HasRoom x → unpacked_cell (packed_cell x) ≡ x
cell_back (Holds c joined style) room =
    let low = scalar_low c room.0 in
    let look = style_digit style + 128 * packed_chars joined in
    let chars = ap (unpacked_chars 4) (other_digits (style_digit style) (packed_chars joined) 128 (style_low style)) ∙ chars_back 4 joined room.1 room.2 in
    let looks = ap style_of_digit (last_digit (style_digit style) (packed_chars joined) 128 (style_low style)) ∙ style_back style in
    (λ i. cell_by (last_digit (c + 1) look 0x20_0000 low i) (other_digits (c + 1) look 0x20_0000 low i))
    ∙ ap (λ is. cond is Half (Holds (c + 1 - 1) (unpacked_chars 4 (look / 128)) (style_of_digit (look % 128)))) (nonzero c)
    ∙ (λ i. Holds (one_less c i) (chars i) (looks i))
cell_back Half room = refl

pub is_packed : (x : Cell) → HasRoom x → IsPacked (packed_cell x)
is_packed x room = record { code = ap packed_cell (sym (cell_back x room)); room = subst HasRoom (sym (cell_back x room)) room }

-- ---- numbers

pub half_by_code : (n : ℕ) → n % 0x20_0000 ≡ 0 → unpacked_cell n ≡ Half
half_by_code n h = ap (λ d. cell_by d (n / 0x20_0000)) h

pub held_by_code : (n : ℕ) → (n % 0x20_0000 ≡ 0 → ⊥)
    → unpacked_cell n ≡ Holds (n % 0x20_0000 - 1) (unpacked_chars 4 (n / 0x20_0000 / 128)) (style_of_digit (n / 0x20_0000 % 128))
held_by_code n h =
    ap (λ is. cond is Half (Holds (n % 0x20_0000 - 1) (unpacked_chars 4 (n / 0x20_0000 / 128)) (style_of_digit (n / 0x20_0000 % 128)))) (ne_eqb (n % 0x20_0000) 0 h)

is_false : (b : Bool) → (b ≡ true → ⊥) → b ≡ false
is_false true h = absurd (h refl)
is_false false h = refl

pub same_codes : (m n : ℕ) → IsPacked m → IsPacked n → nat_eq m n ≡ same_cell (unpacked_cell m) (unpacked_cell n)
same_codes m n p q =
    let a = unpacked_cell m in
    ⊎_elim
    (λ e. e.0 ∙ sym (ap (λ k. same_cell a (unpacked_cell k)) (sym e.1) ∙ itself same.cells a))
    (λ e. e.0 ∙ sym (is_false (same_cell a (unpacked_cell n)) (λ h. e.1 (p.code ∙ ap packed_cell (sound same.cells a (unpacked_cell n) h) ∙ sym q.code))))
    (eqb_tells m n)
