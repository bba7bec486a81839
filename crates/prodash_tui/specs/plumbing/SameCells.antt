-- The tests of equality of cells and styles are true exactly of equal values.
use Rattle.std.proofs.Common.{◌≡◌, true, nat_eq, refl}
use Rattle.std.specs.Bool.{beq}
use Rattle.std.specs.Cmp.{booleans_Decides}
use Rattle.std.specs.Cmp.Lexicographic.{pointwise}
use Rattle.prodash_tui.specs.declared.cell.Cell.{Cell}
use Rattle.prodash_tui.specs.declared.cell.Cell.TheVariants.{Holds, Half}
use Rattle.prodash_tui.specs.declared.style.Color.{Color}
use Rattle.prodash_tui.specs.declared.style.Color.TheVariants.{Black, Red, Green, Yellow, White, LightRed}
use Rattle.prodash_tui.specs.Cells.{same_cell, same_color, same_style}
use Rattle.prodash_base.specs.plumbing.EqualityTests.{IsEqualityTest, same_pair, sound, itself, by_cases, numbers, texts, options, pairs, by_parts}

truths : IsEqualityTest beq
truths = record { decides = booleans_Decides }

colors_sound : (a b : Color) → same_color a b ≡ true → a ≡ b
colors_sound Black Black h = refl
colors_sound Red Red h = refl
colors_sound Green Green h = refl
colors_sound Yellow Yellow h = refl
colors_sound White White h = refl
colors_sound LightRed LightRed h = refl
colors_sound _ _ h = cc

colors_itself : (a : Color) → same_color a a ≡ true
colors_itself Black = refl
colors_itself Red = refl
colors_itself Green = refl
colors_itself Yellow = refl
colors_itself White = refl
colors_itself LightRed = refl

pub styles : IsEqualityTest same_style
styles =
    by_parts (λ s. (s.bold, (s.foreground, s.background))) (λ q. record { bold = q.0; foreground = q.1.0; background = q.1.1 }) (λ _. refl)
    (pairs truths (pairs (options (by_cases colors_sound colors_itself)) (options (by_cases colors_sound colors_itself))))

-- a character, those that have joined it, and its style
parts : IsEqualityTest (same_pair nat_eq (same_pair (pointwise nat_eq) same_style))
parts = pairs numbers (pairs texts styles)

cells_sound : (a b : Cell) → same_cell a b ≡ true → a ≡ b
cells_sound (Holds c joined style) (Holds d others look) h = λ i. let all = sound parts (c, (joined, style)) (d, (others, look)) h i in Holds all.0 all.1.0 all.1.1
cells_sound Half Half h = refl
cells_sound _ _ h = cc

cells_itself : (a : Cell) → same_cell a a ≡ true
cells_itself (Holds c joined style) = itself parts (c, (joined, style))
cells_itself Half = refl

pub cells : IsEqualityTest same_cell
cells = by_cases cells_sound cells_itself
