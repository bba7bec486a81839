-- Texts without unsafe characters.
use Rattle.std.proofs.Common.{◌≡◌, ℕ, Bool, true, false, cond, List, [], ◌∷◌, chars, map, refl, sym, ap, subst, ◌∙◌, Some, arith}
use Rattle.std.specs.Prelude.{◌||◌}
use Rattle.std.specs.List.{AllByRecursion, list_any}
use Rattle.std.specs.Bool.{then_some}
use Rattle.std.proofs.lemmas.List.Sums.{sum_by-cons}
use Rattle.std.proofs.lemmas.Str.{chars-nil}
use Rattle.unicode_width.specs.Width.{str_width}
use Rattle.prodash_line.specs.UnsafeCharacters.{is_unsafe}
use Rattle.prodash_line.specs.DrawnLines.{safe_char, drawn_chars}
use Rattle.prodash_line.specs.Lines.{piece, width_of}
use Rattle.prodash_line.specs.plumbing.MeasuredNames.{IsDrawnAsIs}
use Rattle.prodash_line.specs.plumbing.Writing.{is_printable}
use Rattle.prodash_line.proofs.Columns.{chars-printable}
use Rattle.prodash_line.proofs.Prefixes.{width-none}
use Rattle.prodash_line.proofs.SafeFrames.{printable_clean}

neither : (a b : Bool) → (a || b) ≡ false → (a ≡ false) × (b ≡ false)
neither true b e = cc
neither false b e = (refl, e)

none_replaced : (text : List ℕ) → list_any is_unsafe text ≡ false → map safe_char text ≡ text
none_replaced [] e = refl
none_replaced (c ∷ text) e =
    let h = neither (is_unsafe c) (list_any is_unsafe text) e in
    ap (λ (b : Bool). cond b 0xFFFD c ∷ map safe_char text) h.0 ∙ ap (λ (t : List ℕ). c ∷ t) (none_replaced text h.1)

none_clean : (text : List ℕ) → AllByRecursion (λ c. is_unsafe c ≡ false) text → map safe_char text ≡ text
none_clean [] h = refl
none_clean (c ∷ text) h = ap (λ (b : Bool). cond b 0xFFFD c ∷ map safe_char text) h.0 ∙ ap (λ (t : List ℕ). c ∷ t) (none_clean text h.1)

-- a text without unsafe characters is drawn as it is
pub drawn_as_is : (defensive : Bool) (text : List ℕ) → list_any is_unsafe (chars text) ≡ false → chars text ≡ drawn_chars defensive text
drawn_as_is true text e = sym (none_replaced (chars text) e)
drawn_as_is false text e = refl

-- nor does a renderer change printable characters
pub printable_as_is : (defensive : Bool) (text : List ℕ) → is_printable text ≡ true → chars text ≡ drawn_chars defensive text
printable_as_is true text e = sym (none_clean (chars text) (subst (AllByRecursion (λ c. is_unsafe c ≡ false)) (sym (chars-printable text e)) (printable_clean text e)))
printable_as_is false text e = refl

-- the empty text, on no column
pub empty_as_is : IsDrawnAsIs [] 0
empty_as_is = record {
  drawn = λ defensive. printable_as_is defensive [] refl;
  columns = omega (arith, sum_by-cons width_of (piece (chars [])) [], ap (str_width false) chars-nil, width-none);
}

pub some_if : (b : Bool) (x y : ℕ) → then_some b x ≡ Some y → b ≡ true
some_if true x y e = refl
some_if false x y e = cc

-- a text of printable characters is drawn as it is
pub printable_drawn : (defensive : Bool) (text : List ℕ) (x y : ℕ) → then_some (is_printable text) x ≡ Some y → chars text ≡ drawn_chars defensive text
printable_drawn defensive text x y e = printable_as_is defensive text (some_if (is_printable text) x y e)
