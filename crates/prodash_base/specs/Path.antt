-- Paths: the places of tasks in the tree.
use Rattle.std.specs.Prelude.{ℕ, ◌≡◌, ◌+◌, ◌-◌, ◌%◌, ◌<◌, ◌≤◌, nat_lt, List, [], ◌∷◌, ◌++◌, length, take, if◌then◌else◌}
use Rattle.std.specs.List.{All}
use Rattle.std.specs.declared.cmp.Ordering.{Ordering}
use Rattle.std.specs.Ordering.{nat_cmp}
use Rattle.std.specs.Cmp.Lexicographic.{slice_cmp}

-- the numbers of a task and its ancestors, from the root down
abbrev pub Path : Type 0
Path = List ℕ

-- the greatest number of numbers that a path has
abbrev pub max_level : ℕ
max_level = 6

-- the bound of each number, which is a `u32`
abbrev pub child_limit : ℕ
child_limit = 4294967296

-- the number after a child's: one more, and 0 after the greatest
abbrev pub next_id : ℕ → ℕ
next_id n = (n + 1) % child_limit

-- a path that a key can have
pub record IsPath (p : Path) : Type 0 where
  pub levels : length p ≤ max_level
  pub numbers : All (λ n. n < child_limit) p

-- the lexicographic order, in which a proper prefix comes first
abbrev pub path_cmp : Path → Path → Ordering
path_cmp = slice_cmp nat_cmp

-- the path followed by n, or at the deepest level the path with its last number replaced by n
abbrev pub child : Path → ℕ → Path
child p n = if nat_lt (length p) max_level then p ++ n ∷ [] else take (max_level - 1) p ++ n ∷ []

-- two paths with at least n numbers each, the first n of which agree
abbrev pub SharesPrefix : ℕ → Path → Path → Type 0
SharesPrefix n p q = (n ≤ length p) × (n ≤ length q) × (take n p ≡ take n q)
