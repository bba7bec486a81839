-- Adjacency, computed.
use Rattle.std.proofs.Common.{◌≡◌, List, [], ◌∷◌, refl}
use Rattle.prodash_base.specs.declared.progress.key.adjacency.Adjacency.{Adjacency}
use Rattle.prodash_base.specs.declared.progress.key.adjacency.SiblingLocation.{SiblingLocation}
use Rattle.prodash_base.specs.declared.progress.key.adjacency.SiblingLocation.TheVariants.{Above, Below, AboveAndBelow, NotFound}
use Rattle.prodash_base.specs.Path.{Path}
use Rattle.prodash_base.specs.Adjacency.{adjacency, level_of}

-- the locations at levels 1 and 2, with none from level 3 on
abbrev two_levels : SiblingLocation → SiblingLocation → Adjacency
two_levels first second = record { 0 = first; 1 = second; 2 = NotFound; 3 = NotFound; 4 = NotFound; 5 = NotFound }

-- two tasks, the first of which has two children
abbrev tasks : List Path
tasks = (1 ∷ []) ∷ (1 ∷ 1 ∷ []) ∷ (1 ∷ 2 ∷ []) ∷ (2 ∷ []) ∷ []

pub first_task : adjacency tasks (1 ∷ []) ≡ two_levels AboveAndBelow NotFound
first_task = refl

pub first_child : adjacency tasks (1 ∷ 1 ∷ []) ≡ two_levels AboveAndBelow AboveAndBelow
first_child = refl

pub last_child : adjacency tasks (1 ∷ 2 ∷ []) ≡ two_levels AboveAndBelow Above
last_child = refl

pub last_task : adjacency tasks (2 ∷ []) ≡ two_levels Above NotFound
last_task = refl

pub last_child_level : level_of (adjacency tasks (1 ∷ 2 ∷ [])) ≡ 2
last_child_level = refl

-- a row whose parent is gone
abbrev orphan : List Path
orphan = (0 ∷ 0 ∷ []) ∷ []

pub orphan_alone : adjacency orphan (0 ∷ 0 ∷ []) ≡ two_levels NotFound NotFound
orphan_alone = refl

pub orphan_level : level_of (adjacency orphan (0 ∷ 0 ∷ [])) ≡ 0
orphan_level = refl

-- two rows whose parent is gone
abbrev orphans : List Path
orphans = (0 ∷ 0 ∷ []) ∷ (0 ∷ 1 ∷ []) ∷ []

pub first_orphan : adjacency orphans (0 ∷ 0 ∷ []) ≡ two_levels NotFound Below
first_orphan = refl

pub first_orphan_level : level_of (adjacency orphans (0 ∷ 0 ∷ [])) ≡ 2
first_orphan_level = refl
