-- Prefixes, computed on some rows.
use Rattle.std.proofs.Common.{◌≡◌, List, [], ◌∷◌, Some, None, codes, refl}
use Rattle.prodash_base.specs.Path.{Path}
use Rattle.prodash_core.specs.Prefixes.{prefix_at}

-- two tasks, of which the first has two children
abbrev paths : List Path
paths = (1 ∷ []) ∷ (1 ∷ 1 ∷ []) ∷ (1 ∷ 2 ∷ []) ∷ (2 ∷ []) ∷ []

pub first_task : prefix_at paths 0 ≡ Some (codes "├")
first_task = refl

pub first_child : prefix_at paths 1 ≡ Some (codes "│ ├")
first_child = refl

pub last_child : prefix_at paths 2 ≡ Some (codes "│ └")
last_child = refl

pub past_the_end : prefix_at paths 4 ≡ None
past_the_end = refl

-- a child without a sibling or a parent
pub orphan : prefix_at ((1 ∷ 1 ∷ []) ∷ []) 0 ≡ Some (codes "│  ")
orphan = refl
