-- The prefix of a row, which draws the branches of the tree that lead to it.
use Prim.Native.Char.{code}
use Rattle.std.specs.Prelude.{◌≡◌, ℕ, Bool, true, false, not, ◌==◌, List, [], ◌∷◌, ◌++◌, take, length, slice_get, Option, Some, String, string_bytes, encode_utf8_all}
use Rattle.std.specs.Option.{option_map}
use Rattle.prodash_base.specs.Path.{Path}
use Rattle.prodash_base.specs.Adjacency.{adjacency, locations, level_of}
use Rattle.prodash_base.specs.declared.progress.key.adjacency.Adjacency.{Adjacency}
use Rattle.prodash_base.specs.declared.progress.key.adjacency.SiblingLocation.{SiblingLocation}
use Rattle.prodash_base.specs.declared.progress.key.adjacency.SiblingLocation.TheVariants.{Above, Below, AboveAndBelow, NotFound}

-- the character of the row's own level: whether it is level 1, whether the row is an orphan, and
-- the location
abbrev pub own_branch : Bool → Bool → SiblingLocation → ℕ
own_branch true orphan Above = code "├"
own_branch true orphan Below = code "│"
own_branch true orphan AboveAndBelow = code "├"
own_branch true orphan NotFound = code "│"
own_branch false orphan Above = code "└"
own_branch false orphan Below = code "┌"
own_branch false orphan AboveAndBelow = code "├"
own_branch false true NotFound = code " "
own_branch false false NotFound = code "·"

-- the character of an ancestor's level
abbrev pub ancestor_branch : Bool → Bool → SiblingLocation → ℕ
ancestor_branch first orphan Above = code "└"
ancestor_branch first orphan Below = code "┌"
ancestor_branch first orphan AboveAndBelow = code "│"
ancestor_branch true orphan NotFound = code "│"
ancestor_branch false true NotFound = code "·"
ancestor_branch false false NotFound = code " "

-- the characters of these locations, of which the last is that of the row's own level; between
-- any two is a space
abbrev pub branches : Bool → Bool → List SiblingLocation → List ℕ
branches first orphan [] = []
branches first orphan (own ∷ []) = own_branch first orphan own ∷ []
branches first orphan (location ∷ next ∷ more) =
    ancestor_branch first orphan location ∷ code " " ∷ branches false orphan (next ∷ more)

-- a row is an orphan if the level of its adjacency isn't its own
abbrev pub is_orphan : Adjacency → ℕ → Bool
is_orphan a level = not (level_of a == level)

-- the prefix of a row of this level
abbrev pub prefix_of : Adjacency → ℕ → List ℕ
prefix_of a level = branches true (is_orphan a level) (take level (locations a))

-- the prefix of the path at an index
abbrev pub prefix_at : List Path → ℕ → Option (List ℕ)
prefix_at paths i = option_map (λ p. prefix_of (adjacency paths p) (length p)) (slice_get paths i)

-- the bytes of the prefix of the path at an index
abbrev pub IsPrefixAt : List Path → ℕ → List ℕ → Type 0
IsPrefixAt paths i bytes = option_map encode_utf8_all (prefix_at paths i) ≡ Some bytes

-- the string after has the bytes of the string before, and then those of the prefix of the path at
-- an index
abbrev pub AppendsPrefixAt : {Z : Type 0} → List Path → ℕ → String Z → String Z → Type 0
AppendsPrefixAt paths i before after =
    option_map (λ prefix. string_bytes before ++ encode_utf8_all prefix) (prefix_at paths i)
    ≡ Some (string_bytes after)
