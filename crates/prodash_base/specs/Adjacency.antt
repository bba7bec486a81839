-- Adjacency: on which sides a path and its ancestors have siblings in a list of paths.
use Rattle.std.specs.Prelude.{◌≡◌, ℕ, ◌-◌, ◌<◌, ◌≤◌, ◌⊎◌, Bool, true, false, ◌&&◌, ◌||◌, nat_eq, nat_lt, List, [], ◌∷◌, length, take, map, find, unwrap_or, Option, Some, None, IfSome, slice_get, if◌then◌else◌}
use Rattle.std.specs.List.{AllAdjacentBelow, list_any}
use Rattle.std.specs.Option.{option_map}
use Rattle.std.specs.declared.cmp.Ordering.TheVariants.{Less}
use Rattle.std.specs.Ordering.{is_lt, is_gt}
use Rattle.prodash_base.specs.Numbers.{same_numbers}
use Rattle.prodash_base.specs.Path.{Path, path_cmp, max_level}
use Rattle.prodash_base.specs.declared.progress.Row.{Row}
use Rattle.prodash_base.specs.declared.progress.key.adjacency.Adjacency.{Adjacency}
use Rattle.prodash_base.specs.declared.progress.key.adjacency.SiblingLocation.{SiblingLocation}
use Rattle.prodash_base.specs.declared.progress.key.adjacency.SiblingLocation.TheVariants.{Above, Below, AboveAndBelow, NotFound}

-- the paths of rows
abbrev pub paths_of : List Row → List Path
paths_of = map (λ r. r.key)

-- paths in strictly ascending order: each is less than the next
abbrev pub IsAscending : List Path → Type 0
IsAscending paths = AllAdjacentBelow (λ p q. path_cmp p q ≡ Less) paths (length paths)

-- the test of a path q with n numbers, all but the last of which are the first of p: the ancestor of
-- p at level n, or p itself, or a sibling of that
abbrev pub is_beside : Path → ℕ → Path → Bool
is_beside p n q = nat_eq (length q) n && same_numbers (take (n - 1) p) (take (n - 1) q)

-- whether a sibling at level n, or the ancestor of p there, comes before p
abbrev pub has_sibling_before : List Path → Path → ℕ → Bool
has_sibling_before paths p n = list_any (λ q. is_lt (path_cmp q p) && is_beside p n q) paths

-- whether the first n - 1 numbers of p are a path of the list
abbrev pub has_parent : List Path → Path → ℕ → Bool
has_parent paths p n = list_any (same_numbers (take (n - 1) p)) paths

-- whether something is above p at level n: an earlier path there, which may be the ancestor of p
-- itself, the root at level 1, and the parent of p at the level of p
abbrev pub has_above : List Path → Path → ℕ → Bool
has_above paths p n =
    nat_eq n 1 || has_sibling_before paths p n || (nat_eq n (length p) && has_parent paths p n)

-- whether a sibling at level n comes after p
abbrev pub has_below : List Path → Path → ℕ → Bool
has_below paths p n = list_any (λ q. is_gt (path_cmp q p) && is_beside p n q) paths

-- the location of a path, from whether something is above and below it
abbrev pub own_location : Bool → Bool → SiblingLocation
own_location true true = AboveAndBelow
own_location true false = Above
own_location false true = Below
own_location false false = NotFound

-- the location of an ancestor, for which both sides count or none
abbrev pub ancestor_location : Bool → Bool → SiblingLocation
ancestor_location true true = AboveAndBelow
ancestor_location _ _ = NotFound

-- the location at level n, from 1 on
abbrev pub location : List Path → Path → ℕ → SiblingLocation
location paths p n =
    if nat_lt (length p) n then NotFound
    else if nat_eq n (length p) then own_location (has_above paths p n) (has_below paths p n)
    else ancestor_location (has_above paths p n) (has_below paths p n)

-- the locations at all levels
abbrev pub adjacency : List Path → Path → Adjacency
adjacency paths p =
    record {
      0 = location paths p 1;
      1 = location paths p 2;
      2 = location paths p 3;
      3 = location paths p 4;
      4 = location paths p 5;
      5 = location paths p 6;
    }

-- the adjacency of the path at an index
abbrev pub adjacency_at : List Path → ℕ → Option Adjacency
adjacency_at paths i = option_map (adjacency paths) (slice_get paths i)

-- the locations from level 1 on
abbrev pub locations : Adjacency → List SiblingLocation
locations a = a.0 ∷ a.1 ∷ a.2 ∷ a.3 ∷ a.4 ∷ a.5 ∷ []

-- the location at a level from 1 to 6
abbrev pub location_at : Adjacency → ℕ → Option SiblingLocation
location_at a n = if nat_eq n 0 then None else slice_get (locations a) (n - 1)

-- the locations of the ancestors of p: each is `AboveAndBelow` or `NotFound`
abbrev pub AncestorsOnBothSides : Adjacency → Path → Type 0
AncestorsOnBothSides a p =
    (n : ℕ) → 0 < n → n < length p → n ≤ max_level
    → (location_at a n ≡ Some AboveAndBelow) ⊎ (location_at a n ≡ Some NotFound)

-- the same of the path at an index
abbrev pub AncestorsOnBothSidesAt : List Path → ℕ → Adjacency → Type 0
AncestorsOnBothSidesAt paths i a = IfSome (slice_get paths i) (AncestorsOnBothSides a)

-- the test of a location other than `NotFound`
abbrev pub is_found : Option SiblingLocation → Bool
is_found None = false
is_found (Some NotFound) = false
is_found _ = true

-- the highest level that isn't `NotFound`, or 0
abbrev pub level_of : Adjacency → ℕ
level_of a =
    unwrap_or (find (λ n. is_found (location_at a n)) (6 ∷ 5 ∷ 4 ∷ 3 ∷ 2 ∷ 1 ∷ [])) 0
