-- What becomes of a block that was read.
use Rattle.std.specs.Prelude.{◌≡◌, ℕ, List, [], ◌++◌, Option, Result, MatchResult, ⊤}
use Rattle.std.specs.Io.KnownBytes.{Appends}
use Rattle.prodash_pipe.specs.Counts.{Counts, MeterOf}
use Rattle.prodash_pipe.specs.declared.failure.Failure.{Failure}
use Rattle.prodash_pipe.specs.declared.failure.Failure.TheVariants.{Input, Output}

-- a write failed
abbrev pub IsOutput : Failure → Type 0
IsOutput (Input error) = ⊥
IsOutput (Output error) = ⊤

-- A block is written, or a beginning of it if a write failed, and is counted.
pub record Passes {X : Type 0} (block : List ℕ) (result : Result X Failure) (held held' : Option (List ℕ)) (m m' : MeterOf) : Type 0 where
  pub written : List ℕ
  pub lost : List ℕ
  pub whole : block ≡ written ++ lost
  pub writes : Appends held held' written
  pub counts : Counts written m m'
  pub loses : MatchResult result (λ _. lost ≡ []) IsOutput
