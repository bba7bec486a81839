-- A printable ASCII character has one column, and is drawn as it is.
use Rattle.std.proofs.Common.{◌≡◌, ℕ, ◌≤◌, Bool, cond, [], ◌∷◌, sym, ap, arith}
use Rattle.std.proofs.lemmas.Bool.Decides.{nat_tests}
use Rattle.unicode_width.specs.Width.{char_width}
use Rattle.prodash_line.specs.CellRows.{char_columns}
use Rattle.prodash_line.specs.DrawnLines.{safe_char}
use Rattle.prodash_line.proofs.Columns.{printable-one}
use Rattle.prodash_line.proofs.SafeFrames.{printable_clean}

pub one_column : (c : ℕ) → 32 ≤ c → c ≤ 126 → char_columns c ≡ 1
unfolding char_width
one_column c low high = grind (arith, nat_tests)

pub printable_as_drawn : (c : ℕ) → 32 ≤ c → c ≤ 126 → c ≡ safe_char c
printable_as_drawn c low high = sym (ap (λ (b : Bool). cond b 0xFFFD c) (printable_clean (c ∷ []) (printable-one c low high)).0)
