-- Progress that wraps other progress, or none.
use Rattle.std.specs.Prelude.{Option, Some, None}
use Rattle.prodash.specs.declared.progress.utils.either.Either.{Either}
use Rattle.prodash.specs.declared.progress.utils.either.Either.TheVariants.{Left, Right}

-- one fact of a left value, another of a right one
abbrev pub OnEither : {L R : Type 0} → (L → Type 0) → (R → Type 0) → Either L R → Type 0
OnEither p q (Left l) = p l
OnEither p q (Right r) = q r

-- both are left values of which one fact holds, or right ones of which another does
abbrev pub OnBoth : {L R M S : Type 0} → (L → M → Type 0) → (R → S → Type 0) → Either L R → Either M S → Type 0
OnBoth p q (Left l) (Left m) = p l m
OnBoth p q (Right r) (Right s) = q r s
OnBoth p q _ _ = ⊥

-- the progress of a `DoOrDiscard`, if it is not discarded
abbrev pub held : {T R : Type 0} → Either T R → Option T
held (Left progress) = Some progress
held (Right _) = None
