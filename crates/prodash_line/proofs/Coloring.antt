-- Lines with and without colour.
use Rattle.std.proofs.Common.{◌≡◌, Bool, [], ◌∷◌, ◌++◌, refl, ap, arith}
use Rattle.std.specs.Prelude.{sum_by}
use Rattle.std.proofs.lemmas.List.{map-append}
use Rattle.std.proofs.lemmas.List.Sums.{sum_by-cons}
use Rattle.prodash_line.specs.Lines.{Line, styled, shown_style, width_of, columns_of, capped, in_color}

pub in_color-append : (colored : Bool) (xs ys : Line) → in_color colored (xs ++ ys) ≡ in_color colored xs ++ in_color colored ys
in_color-append colored xs ys = map-append (λ p. styled (shown_style colored p.style) p.text) xs ys

widths-in_color : (colored : Bool) (line : Line) → sum_by width_of (in_color colored line) ≡ sum_by width_of line
widths-in_color colored [] = refl
widths-in_color colored (p ∷ ps) =
    let here = sum_by-cons width_of p ps in
    let there = sum_by-cons width_of (styled (shown_style colored p.style) p.text) (in_color colored ps) in
    omega (arith, here, there, widths-in_color colored ps)

-- colour takes no column
pub columns_of-in_color : (colored : Bool) (line : Line) → columns_of (in_color colored line) ≡ columns_of line
columns_of-in_color colored line = ap capped (widths-in_color colored line)
