-- Branches of an ascending list: the neighbouring paths that share their first numbers.
use Rattle.std.specs.Prelude.{◌≡◌, ℕ, ◌+◌, ◌-◌, ◌<◌, ◌≤◌, List, [], length, take, IsTrue}
use Rattle.std.specs.List.{slice_index_or}
use Rattle.std.specs.List.Sorted.{IsPartitionPoint}
use Rattle.std.specs.Ordering.{is_lt, is_le, is_ge, is_gt}
use Rattle.std.specs.declared.cmp.Ordering.{Ordering}
use Rattle.std.specs.declared.cmp.Ordering.TheVariants.{Equal}
use Rattle.prodash_base.specs.Path.{Path, path_cmp}
use Rattle.prodash_base.specs.Adjacency.{paths_of}
use Rattle.prodash_base.specs.declared.progress.Row.{Row}

-- the path at an index
abbrev pub path_at : List Path → ℕ → Path
path_at paths i = slice_index_or paths i []

-- what `f` says of the path of a row among all of them
abbrev pub at_row : {A : Type 0} → (List Path → Path → A) → List Row → ℕ → A
at_row f rows index = f (paths_of rows) (path_at (paths_of rows) index)

-- the order of the first n numbers of two paths
abbrev pub cmp_prefix : ℕ → Path → Path → Ordering
cmp_prefix n q p = path_cmp (take n q) (take n p)

-- the index of the first path whose first n numbers are those of p or greater
abbrev pub StartsBranch : List Path → Path → ℕ → ℕ → Type 0
StartsBranch paths p n =
    IsPartitionPoint
    (λ q. IsTrue (is_lt (cmp_prefix n q p))) (λ q. IsTrue (is_ge (cmp_prefix n q p))) paths

-- the index of the first path whose first n numbers are greater than those of p
abbrev pub EndsBranch : List Path → Path → ℕ → ℕ → Type 0
EndsBranch paths p n =
    IsPartitionPoint
    (λ q. IsTrue (is_le (cmp_prefix n q p))) (λ q. IsTrue (is_gt (cmp_prefix n q p))) paths

-- a path with n numbers at an index from i up to j
abbrev pub HasLevel : List Path → ℕ → ℕ → ℕ → Type 0
HasLevel paths n i j = (k : ℕ) × (i ≤ k) × (k < j) × (length (path_at paths k) ≡ n)

-- a path is the one before an index, and shares its first n numbers with the one there
abbrev pub IsSharedAbove : List Path → ℕ → ℕ → Path → Type 0
IsSharedAbove paths n i q = (0 < i) × (q ≡ path_at paths (i - 1)) × (cmp_prefix n q (path_at paths i) ≡ Equal)

-- a path is the one behind an index, and shares its first n numbers with the one there
abbrev pub IsSharedBelow : List Path → ℕ → ℕ → Path → Type 0
IsSharedBelow paths n i q =
    (i + 1 < length paths) × (q ≡ path_at paths (i + 1)) × (cmp_prefix n q (path_at paths i) ≡ Equal)
