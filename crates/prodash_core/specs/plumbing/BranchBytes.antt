-- The branches of a row as bytes.
use Rattle.std.specs.Prelude.{ℕ, Bool, true, List, encode_utf8_all}
use Rattle.prodash_base.specs.declared.progress.key.adjacency.SiblingLocation.{SiblingLocation}
use Rattle.prodash_core.specs.Prefixes.{branches}

-- the bytes of these characters of a row, which may be an orphan
abbrev pub branch_bytes : Bool → List SiblingLocation → List ℕ
branch_bytes orphan locations = encode_utf8_all (branches true orphan locations)
