-- Keys, seen as their paths.
use Rattle.std.specs.Prelude.{◌≡◌, ◌-◌, ◌<◌, ◌≤◌, ◌++◌, length, take, drop, replicate}
use Rattle.std.specs.List.{All}
use Rattle.std.proofs.Common.{arith, ap, sym, ◌∙◌}
use Rattle.std.proofs.lemmas.List.{length-take-le, take-append-drop}
use Rattle.prodash_base.specs.declared.progress.key.Key.TheInside.{Inside}
use Rattle.prodash_base.specs.Path.{Path, max_level, child_limit}

-- the first numbers of a key, as many as its level says
abbrev pub path_of_key : Inside → Path
path_of_key k = take k.level k.numbers

-- six numbers, each a `u32`, of which those past the level are 0
pub record IsKey (k : Inside) : Type 0 where
  pub six : length k.numbers ≡ max_level
  pub level : k.level ≤ max_level
  pub numbers : All (λ n. n < child_limit) k.numbers
  pub zeros : drop k.level k.numbers ≡ replicate (max_level - k.level) 0

-- a path, filled up with zeros
abbrev pub key_of_path : Path → Inside
key_of_path p = record { numbers = p ++ replicate (max_level - length p) 0; level = length p }

-- a key is that of its path
pub key_of_path-path_of_key : (k : Inside) → IsKey k → key_of_path (path_of_key k) ≡ k
key_of_path-path_of_key k h =
    let level : length (take k.level k.numbers) ≡ k.level = length-take-le k.level k.numbers (omega arith) in
    let filled : take k.level k.numbers ++ replicate (max_level - length (take k.level k.numbers)) 0 ≡ k.numbers =
    ap (λ n. take k.level k.numbers ++ replicate (max_level - n) 0) level ∙ ap (λ xs. take k.level k.numbers ++ xs) (sym h.zeros) ∙ take-append-drop k.level k.numbers in
    λ i. record { numbers = filled i; level = level i }
