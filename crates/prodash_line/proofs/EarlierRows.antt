-- The rows that were remembered before those of a tick.
use Rattle.std.proofs.Common.{◌≡◌, ℕ, Bool, true, false, not, List, [], ◌∷◌, Some, refl, sym, ap, ◌∙◌}
use Rattle.prodash_base.specs.Rows.{PathRow, same_rows}
use Rattle.prodash_base.specs.Steps.{with_steps}
use Rattle.prodash_base.specs.plumbing.EqualityTests.{itself, sound}
use Rattle.prodash_base.specs.plumbing.SameRows as same
use Rattle.prodash_line.specs.Renderer.{rows_changed}

-- no rows have other steps
pub nothing_with_steps : (steps : List ℕ) → with_steps steps [] ≡ []
nothing_with_steps [] = refl
nothing_with_steps (step ∷ steps) = refl

-- tests that hold of the same are the same
pub agree : (a b : Bool) → (a ≡ true → b ≡ true) → (b ≡ true → a ≡ true) → a ≡ b
agree true b there back = sym (there refl)
agree false true there back = back refl
agree false false there back = refl

-- rows that have such steps haven't changed, and others have
pub changed_steps : (steps : List ℕ) (rows : List PathRow) (have : Bool) → (have ≡ true → with_steps steps rows ≡ rows) → (with_steps steps rows ≡ rows → have ≡ true)
    → not have ≡ rows_changed (Some (with_steps steps rows)) rows
changed_steps steps rows have there back =
    ap not (agree have (same_rows (with_steps steps rows) rows)
    (λ yes. ap (λ (before : List PathRow). same_rows before rows) (there yes) ∙ itself same.rows rows)
    (λ alike. back (sound same.rows (with_steps steps rows) rows alike)))

-- no rows stay none
pub nothing_changed : (steps : List ℕ) → false ≡ rows_changed (Some (with_steps steps [])) []
nothing_changed steps = changed_steps steps [] true (λ _. nothing_with_steps steps) (λ _. refl)
