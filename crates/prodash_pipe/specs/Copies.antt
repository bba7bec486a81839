-- What a copy leaves in its writer, of what it has read.
use Rattle.std.specs.Prelude.{◌≡◌, ℕ, List, [], ◌++◌, Option, Result, MatchResult, ⊤}
use Rattle.std.specs.Io.KnownBytes.{Appends, Consumes, IsAtEnd}
use Rattle.prodash_pipe.specs.Counts.{Counts, MeterOf}
use Rattle.prodash_pipe.specs.declared.failure.Failure.{Failure}
use Rattle.prodash_pipe.specs.declared.failure.Failure.TheVariants.{Input, Output}

-- what may be lost of what was read: nothing, unless a write failed
abbrev pub MayLose : Failure → List ℕ → Type 0
MayLose (Input error) lost = lost ≡ []
MayLose (Output error) lost = ⊤

-- A copy: what is written is what was read, all of it unless a write failed, and else a beginning of it. It is counted.
pub record Copies {X : Type 0} (result : Result X Failure) (left left' held held' : Option (List ℕ)) (m m' : MeterOf) : Type 0 where
  pub written : List ℕ
  pub lost : List ℕ
  pub reads : Consumes left left' (written ++ lost)
  pub writes : Appends held held' written
  pub counts : Counts written m m'
  pub ends : MatchResult result (λ _. (lost ≡ []) × IsAtEnd left') (λ failure. MayLose failure lost)
