-- Characters that make a text wider by their own width.
use Rattle.std.proofs.Common.{◌≡◌, ℕ, ◌+◌, ◌≤◌, Bool, true, false, not, ◌&&◌, ◌||◌, nat_lt, List, [], ◌∷◌, Option, Some, None, IfSome, unwrap_or, refl, sym, ap, ◌∙◌, arith, add-zero, ⊎_elim}
use Rattle.std.specs.Int.{is_in_range}
use Rattle.std.specs.List.{list_all}
use Rattle.std.proofs.lemmas.Bool.{or_cases}
use Rattle.std.proofs.lemmas.Bool.Decides.{nat_tests}
use Rattle.std.proofs.lemmas.List.Sums.{sum_by-cons}
use Rattle.ucd_table.specs.Rows.{Range, in_ranges}
use Rattle.ucd_table.proofs.Computing.{tables}
use Rattle.ucd_table.proofs.Facts.{Stepped-always}
use Rattle.ucd_table.proofs.Stepped.{of_ranges, zip_stepped}
use Rattle.unicode_width.specs.declared.kind.Kind.{Kind}
use Rattle.unicode_width.specs.Kind.{kind}
use Rattle.unicode_width.specs.Width.{char_width, str_width}
use Rattle.unicode_width.proofs.KindLemmas.{kind_stepped}
use Rattle.unicode_width.proofs.Rules.{is_simple_kind, is_simple, width_or_zero, str_width-simple, str_width-append_simple}
use Rattle.prodash_line.specs.plumbing.AddedWidths.{AddsWidth, adds_its_width}

abbrev ranges : List Range
ranges =
    (0xA1, 0x337) ∷ (0x339, 0x5DB) ∷ (0x900, 0x177F) ∷ (0x1A11, 0x2319) ∷ (0x2D70, 0xA4FB) ∷ (0xA4FE, 0xFB3B) ∷ (0xFF00, 0xFFFD) ∷ (0x20000, 0x3FFFD) ∷ []

-- each character in them is of a kind whose widths add up
simple_in_ranges : (c : ℕ) → c ≤ 0x10_FFFF → (not (in_ranges ranges c) || is_simple_kind (kind c)) ≡ true
unfolding tables kind_stepped
simple_in_ranges =
    let test = λ (k : Kind) (within : Bool). not within || is_simple_kind k in
    let steps = zip_stepped test kind (in_ranges ranges) kind_stepped (of_ranges ranges refl) in
    Stepped-always (λ c. test (kind c) (in_ranges ranges c)) steps refl

in_them : (c : ℕ) → adds_its_width c ≡ true → (is_in_range 0x20 0x7E c || in_ranges ranges c) ≡ true
unfolding in_ranges
in_them c h = grind (arith, nat_tests)

beyond_ascii : (c : ℕ) → in_ranges ranges c ≡ true → (nat_lt 0xA0 c ≡ true) × (c ≤ 0x10_FFFF)
unfolding in_ranges
beyond_ascii c h = (grind (arith, nat_tests), grind (arith, nat_tests))

simple : (c : ℕ) → adds_its_width c ≡ true → is_simple c ≡ true
simple c h =
    ⊎_elim
    (λ ascii. ap (λ b. b || (nat_lt 0xA0 c && is_simple_kind (kind c))) ascii)
    (λ within.
    let high = beyond_ascii c within in
    let own : is_simple_kind (kind c) ≡ true = rw within at (simple_in_ranges c high.1) in
    grind (arith, high.0, own))
    (or_cases (is_in_range 0x20 0x7E c) (in_ranges ranges c) (in_them c h))

pub adds_own : (c columns : ℕ) → adds_its_width c ≡ true → char_width false c ≡ Some columns → AddsWidth c columns
adds_own c columns h e = λ text.
    let one : list_all is_simple (c ∷ []) ≡ true = ap (λ b. b && true) (simple c h) in
    let own : str_width false (c ∷ []) ≡ columns =
    str_width-simple false (c ∷ []) one ∙ sum_by-cons (width_or_zero false) c [] ∙ add-zero (width_or_zero false c) ∙ ap (λ w. unwrap_or w 0) e in
    str_width-append_simple false text (c ∷ []) one ∙ ap (λ n. str_width false text + n) own

pub adds_own_or_none : (c : ℕ) (columns : Option ℕ) → adds_its_width c ≡ true → columns ≡ char_width false c → IfSome columns (AddsWidth c)
adds_own_or_none c None h e = tt
adds_own_or_none c (Some columns) h e = adds_own c columns h (sym e)
