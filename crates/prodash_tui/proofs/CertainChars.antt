-- A character that every terminal shows in one column has one column, and is drawn as it is.
use Rattle.std.proofs.Common.{◌≡◌, ℕ, zero, suc, ◌+◌, ◌-◌, ◌<◌, ◌≤◌, Bool, true, false, cond, ◌&&◌, ◌||◌, nat_eq, inl, inr, refl, sym, ap, ◌∙◌, arith}
use Rattle.std.specs.Prelude.{min, nat_le}
use Rattle.std.specs.Int.{is_in_range}
use Rattle.std.proofs.lemmas.Bool.{and_parts, cases_lt}
use Rattle.std.proofs.lemmas.Bool.Decides.{nat_tests}
use Rattle.unicode_width.proofs.Computing.{unicode_width}
use Rattle.prodash_base.specs.plumbing.EqualityTests.{numbers, sound}
use Rattle.prodash_line.specs.CellRows.{char_columns}
use Rattle.prodash_line.specs.DrawnLines.{safe_char}
use Rattle.prodash_line.specs.UnsafeCharacters.{is_unsafe}
use Rattle.prodash_tui.specs.Frames.{is_certain}
use Rattle.prodash_tui.specs.OtherWidths.{AreWidths}
use Rattle.prodash_tui.proofs.PrintableChars.{one_column}

-- do so many characters have one column, from this one on?
abbrev all_one : ℕ → ℕ → Bool
all_one first zero = true
all_one first (suc n) = nat_eq (char_columns (first + n)) 1 && all_one first n

one_of : (first n k : ℕ) → all_one first n ≡ true → k < n → char_columns (first + k) ≡ 1
one_of first zero k all lt = absurd (omega arith)
one_of first (suc n) k all lt =
    let parts = and_parts (nat_eq (char_columns (first + n)) 1) (all_one first n) all in
    elim (cases_lt k n) [
      | inl less ↦ one_of first n k parts.1 less
      | inr last ↦ ap (λ (m : ℕ). char_columns (first + m)) (let e : k ≡ n = omega arith in e) ∙ sound numbers (char_columns (first + n)) 1 parts.0
    ]

-- box drawing and block elements
boxes : all_one 0x2500 160 ≡ true
unfolding unicode_width
boxes = refl

box_column : (c : ℕ) → 0x2500 ≤ c → c ≤ 0x259F → char_columns c ≡ 1
box_column c low high = ap char_columns (let e : c ≡ 0x2500 + (c - 0x2500) = omega arith in e) ∙ one_of 0x2500 160 (c - 0x2500) boxes (omega arith)

-- a character of a range
in_range : (first last c : ℕ) → (first ≤ c → c ≤ last → char_columns c ≡ 1) → is_in_range first last c ≡ true → char_columns c ≡ 1
in_range first last c one is =
    let parts = and_parts (nat_le first c) (nat_le c last) is in
    one (grind (arith, nat_tests)) (grind (arith, nat_tests))

in_either : (a b : Bool) (c : ℕ) → (a ≡ true → char_columns c ≡ 1) → (b ≡ true → char_columns c ≡ 1) → (a || b) ≡ true → char_columns c ≡ 1
in_either true b c first second is = first refl
in_either false b c first second is = second is

certain_one : (c : ℕ) → is_certain c ≡ true → char_columns c ≡ 1
certain_one c is =
    in_either (is_in_range 0x20 0x7E c) (is_in_range 0x2500 0x259F c) c (in_range 0x20 0x7E c (one_column c)) (in_range 0x2500 0x259F c (box_column c)) is

pub column_of_certain : (c : ℕ) → is_certain c ≡ true → 1 ≡ min (char_columns c) 2
column_of_certain c is = sym (ap (λ (n : ℕ). min n 2) (certain_one c is))

-- so a terminal may give characters the columns that `unicode_width` counts
pub own_widths : AreWidths char_columns
own_widths = record { joining = λ c. (λ h. h, λ h. h); certain = certain_one }

certain_safe : (c : ℕ) → is_certain c ≡ true → is_unsafe c ≡ false
certain_safe c is = grind (arith, nat_tests)

pub certain_as_drawn : (c : ℕ) → is_certain c ≡ true → c ≡ safe_char c
certain_as_drawn c is = sym (ap (λ (b : Bool). cond b 0xFFFD c) (certain_safe c is))

-- and one column as it is drawn
pub column_as_drawn : (c : ℕ) → is_certain c ≡ true → 1 ≡ min (char_columns (safe_char c)) 2
column_as_drawn c is = column_of_certain c is ∙ ap (λ (d : ℕ). min (char_columns d) 2) (certain_as_drawn c is)
