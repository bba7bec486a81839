-- The definitions of paths and rows, computed.
use Rattle.std.proofs.Common.{◌≡◌, ℕ, List, [], ◌∷◌, None, true, false, refl}
use Rattle.std.specs.Prelude.{codes}
use Rattle.std.specs.declared.cmp.Ordering.TheVariants.{Less, Greater}
use Rattle.prodash_base.specs.Path.{child, next_id, path_cmp}
use Rattle.prodash_base.specs.Rows.{PathRow, same_rows, unknown_id}

pub below : child (1 ∷ 2 ∷ []) 7 ≡ 1 ∷ 2 ∷ 7 ∷ []
below = refl

-- a seventh number replaces the sixth
pub deepest_level : child (1 ∷ 2 ∷ 3 ∷ 4 ∷ 5 ∷ 6 ∷ []) 7 ≡ 1 ∷ 2 ∷ 3 ∷ 4 ∷ 5 ∷ 7 ∷ []
deepest_level = refl

-- the numbers after a child's
pub after_16_bits : next_id 65535 ≡ 65536
after_16_bits = refl

pub after_the_greatest : next_id 4294967295 ≡ 0
after_the_greatest = refl

-- a proper prefix comes first, else the first number that differs decides
pub prefix_first : path_cmp (1 ∷ []) (1 ∷ 0 ∷ []) ≡ Less
prefix_first = refl

pub number_first : path_cmp (2 ∷ []) (1 ∷ 9 ∷ []) ≡ Greater
number_first = refl

abbrev row : List ℕ → PathRow
row name = (0 ∷ [], record { name = name; id = unknown_id; progress = None })

pub same : same_rows (row (codes "a") ∷ []) (row (codes "a") ∷ []) ≡ true
same = refl

pub other_name : same_rows (row (codes "a") ∷ []) (row (codes "b") ∷ []) ≡ false
other_name = refl

pub other_length : same_rows (row (codes "a") ∷ []) [] ≡ false
other_length = refl
