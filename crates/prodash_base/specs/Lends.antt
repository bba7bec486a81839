-- The locations of an `Adjacency` that are lent, to be written.
use Rattle.std.specs.Prelude.{ℕ, Option, nat_eq, if◌then◌else◌}
use Rattle.std.specs.Borrow.{Lends, LendsIf, MutBor, Fml}
use Rattle.prodash_base.specs.declared.progress.key.adjacency.Adjacency.{Adjacency}
use Rattle.prodash_base.specs.declared.progress.key.adjacency.SiblingLocation.{SiblingLocation}
use Rattle.prodash_base.specs.contracts.progress.key.adjacency.Adjacency as adjacency
use Rattle.prodash_base.specs.contracts.progress.key.adjacency.SiblingLocation as sibling

-- the adjacency `a` with this location at a level from 1 to 6
abbrev pub with_location : Adjacency → ℕ → SiblingLocation → Adjacency
with_location a level location =
    if nat_eq level 1 then record a { 0 = location }
    else if nat_eq level 2 then record a { 1 = location }
    else if nat_eq level 3 then record a { 2 = location }
    else if nat_eq level 4 then record a { 3 = location }
    else if nat_eq level 5 then record a { 4 = location }
    else if nat_eq level 6 then record a { 5 = location }
    else a

-- once `r` ends, `a` has at that level the location that was last written through `r`
abbrev pub LendsLocation : MutBor Adjacency → ℕ → MutBor SiblingLocation → Fml
LendsLocation a level r = Lends adjacency.the_row sibling.the_row a r (with_location a.now level)

-- the same if there is a location, and otherwise `a` stays as it is
abbrev pub LendsLocationIf : MutBor Adjacency → ℕ → Option (MutBor SiblingLocation) → Fml
LendsLocationIf a level r =
    LendsIf adjacency.the_row sibling.the_row a r (with_location a.now level) a.now
