-- The law of a key's hash: equal keys have one path, and are hashed alike.
use Rattle.std.specs.Prelude.{◌≡◌, List, ℕ, nat_eq, IsTrue}
use Rattle.std.proofs.Common.{ap, true}
use Rattle.std.specs.Cmp.Lexicographic.{pointwise, bytes_decides}
use Rattle.std.specs.Hash as fed

-- the paths that the test finds equal
pub same_path : (x y : List ℕ) → pointwise nat_eq x y ≡ true → x ≡ y
same_path x y = (bytes_decides x y).0

-- the writes of two keys that the test finds equal
pub key_alike : (x y : List ℕ) → IsTrue (pointwise nat_eq x y) → fed.slice fed.u32 x ≡ fed.slice fed.u32 y
key_alike x y h = ap (fed.slice fed.u32) (same_path x y h)
