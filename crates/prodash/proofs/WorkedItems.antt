-- Worked rows of items and their children.
use Rattle.std.proofs.Common.{◌≡◌, refl, [], ◌∷◌}
use Rattle.prodash.specs.Items.{new_place, next_path, with_child}

-- an item below the root, its first child, and the one after that
first : next_path (new_place (3 ∷ [])) ≡ 3 ∷ 0 ∷ []
first = refl

second : next_path (with_child (new_place (3 ∷ []))) ≡ 3 ∷ 1 ∷ []
second = refl

-- at the sixth level a child takes the place of a sibling
deepest : next_path (with_child (new_place (1 ∷ 2 ∷ 3 ∷ 4 ∷ 5 ∷ 6 ∷ []))) ≡ 1 ∷ 2 ∷ 3 ∷ 4 ∷ 5 ∷ 1 ∷ []
deepest = refl
