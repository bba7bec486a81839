-- The locations of ancestors.
use Rattle.std.proofs.Common.{◌≡◌, ℕ, zero, suc, ◌<◌, ◌⊎◌, List, length, Bool, true, false, nat_eq, nat_lt, Some, inl, inr, refl, sym, subst, arith, if◌then◌else◌}
use Rattle.std.proofs.lemmas.Bool.Decides.{nat_tests}
use Rattle.prodash_base.specs.declared.progress.key.adjacency.SiblingLocation.{SiblingLocation}
use Rattle.prodash_base.specs.declared.progress.key.adjacency.SiblingLocation.TheVariants.{AboveAndBelow, NotFound}
use Rattle.prodash_base.specs.Path.{Path}
use Rattle.prodash_base.specs.Adjacency.{has_above, has_below, own_location, ancestor_location, location, adjacency, AncestorsOnBothSides}

abbrev BothOrNone : SiblingLocation → Type 0
BothOrNone x = (Some x ≡ Some AboveAndBelow) ⊎ (Some x ≡ Some NotFound)

by_sides : (above below : Bool) → BothOrNone (ancestor_location above below)
by_sides true true = inl refl
by_sides true false = inr refl
by_sides false true = inr refl
by_sides false false = inr refl

below_own : (paths : List Path) (p : Path) (n : ℕ) → n < length p → BothOrNone (location paths p n)
below_own paths p n short =
    let above = has_above paths p n in
    let below = has_below paths p n in
    let past : nat_lt (length p) n ≡ false = grind (arith, nat_tests) in
    let own : nat_eq n (length p) ≡ false = grind (arith, nat_tests) in
    let is : location paths p n ≡ ancestor_location above below =
    λ i. if past i then NotFound else if own i then own_location above below else ancestor_location above below in
    subst BothOrNone (sym is) (by_sides above below)

pub ancestors : (paths : List Path) (p : Path) → AncestorsOnBothSides (adjacency paths p) p
ancestors paths p zero low short six = absurd (omega arith)
ancestors paths p (suc zero) low short six = below_own paths p 1 short
ancestors paths p (suc (suc zero)) low short six = below_own paths p 2 short
ancestors paths p (suc (suc (suc zero))) low short six = below_own paths p 3 short
ancestors paths p (suc (suc (suc (suc zero)))) low short six = below_own paths p 4 short
ancestors paths p (suc (suc (suc (suc (suc zero))))) low short six = below_own paths p 5 short
ancestors paths p (suc (suc (suc (suc (suc (suc zero)))))) low short six = below_own paths p 6 short
ancestors paths p (suc (suc (suc (suc (suc (suc (suc n))))))) low short six = absurd (omega arith)
