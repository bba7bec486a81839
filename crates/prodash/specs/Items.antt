-- Items of the locked tree.
use Rattle.std.specs.Prelude.{ℕ}
use Rattle.prodash_base.specs.Path.{Path, child, next_id}

-- an item: its path, and the number that its next child gets
pub record Place : Type 0 where
  pub path : Path
  pub next_child : ℕ

-- an item that has got no child yet
abbrev pub new_place : Path → Place
new_place path = record { path = path; next_child = 0 }

-- the path that the next child of an item gets
abbrev pub next_path : Place → Path
next_path item = child item.path item.next_child

-- the item after it got a child
abbrev pub with_child : Place → Place
with_child item = record item { next_child = next_id item.next_child }
