-- The path above a task's, number by number.
use Rattle.std.proofs.Common.{◌≡◌, ℕ, ◌+◌, ◌-◌, ◌<◌, ◌≤◌, ◌++◌, [], ◌∷◌, length, take, cond, true, Bool, refl, sym, ap, ◌∙◌, arith, get_or}
use Rattle.std.specs.Prelude.{nat_lt, slice_index}
use Rattle.std.proofs.lemmas.List.{take_more, length-take-le}
use Rattle.prodash_base.specs.Path.{Path, child, max_level}

below_last : (n : ℕ) → n < max_level → nat_lt n max_level ≡ true
below_last n h = grind arith

-- a child of fewer numbers than a path can have
child_of : (p : Path) (n : ℕ) → length p < max_level → child p n ≡ p ++ n ∷ []
child_of p n h = ap (λ b. cond b (p ++ n ∷ []) (take 5 p ++ n ∷ [])) (below_last (length p) h)

-- the child of a front of a path, with the path's next number, is the longer front
pub child_of_front : (p : Path) (i : ℕ) → i < length p → i < max_level → child (take i p) (slice_index p i) ≡ take (i + 1) p
child_of_front p i h m =
    let fits : length (take i p) < max_level = rw (length-take-le i p (omega arith)) m in
    child_of (take i p) (slice_index p i) fits ∙ sym (take_more p i _ h)

-- a parent's path grows by a number when a loop that begins at the first goes on
pub child_of_next : (p parent : Path) (i n : ℕ) → 1 ≤ i → i < length p → length p ≤ max_level → parent ≡ take (i - 1) p → n ≡ slice_index p (i - 1)
    → child parent n ≡ take (i + 1 - 1) p
child_of_next p parent i n one h most front number =
    let same : i - 1 + 1 ≡ i + 1 - 1 = omega arith in
    ap (λ q. child q n) front ∙ ap (child (take (i - 1) p)) number
    ∙ child_of_front p (i - 1) (omega arith) (omega arith) ∙ ap (λ m. take m p) same
