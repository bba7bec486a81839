-- A row that is drawn anew by what has changed is the new row.
use Rattle.std.proofs.Common.{◌≡◌, ℕ, ◌+◌, ◌≤◌, Bool, true, false, cond, ◌||◌, List, [], ◌∷◌, ◌++◌, length, refl, sym, ap, subst, ◌∙◌, append_assoc, length-append, arith}
use Rattle.std.proofs.lemmas.List.{length_push}
use Rattle.prodash_tui.specs.declared.cell.Cell.{Cell}
use Rattle.prodash_tui.specs.declared.cell.Cell.TheVariants.{Holds, Half}
use Rattle.prodash_tui.specs.declared.style.Style.{Style}
use Rattle.prodash_tui.specs.Rows.{healed, splice}
use Rattle.prodash_tui.specs.Differences.{IsProper, TellsApart, half_of, redrawn, row_changes}
use Rattle.prodash_tui.proofs.ProperRows.{IsEnd, end_more, proper_end, proper_healed}
use Rattle.prodash_tui.proofs.SplicedRows.{splice_at}

-- behind a narrow character the row is proper
narrow_more : (columns : ℕ → ℕ) (c : ℕ) (joined : List ℕ) (style : Style) (cells : List Cell) → columns c ≡ 1 → IsEnd columns (Holds c joined style ∷ cells) → IsProper columns cells
narrow_more columns c joined style [] one h = tt
narrow_more columns c joined style (Half ∷ cells) one h = absurd (omega (arith, h.0))
narrow_more columns c joined style (Holds d joined' style' ∷ cells) one h = h.2

-- the claim of each end of a row
abbrev Redraws : (ℕ → ℕ) → (Cell → Cell → Bool) → List Cell → Type 0
Redraws columns same new = (done old : List Cell) → IsEnd columns old → length old ≡ length new
    → redrawn (row_changes same (length done) old new) (done ++ healed old) ≡ done ++ new

-- the same where the first cell is a character of one column
narrow_step : (columns : ℕ → ℕ) (same : Cell → Cell → Bool) → TellsApart same → (c : ℕ) (joined : List ℕ) (style : Style) (new : List Cell)
    → columns c ≡ 1 → half_of new ≡ [] → Redraws columns same new → Redraws columns same (Holds c joined style ∷ new)
narrow_step columns same sound c joined style new one alone others done [] end e = absurd (omega arith)
narrow_step columns same sound c joined style new one alone others done (a ∷ old) end e =
    let b = Holds c joined style in
    let n = length done in
    let rest = row_changes same (n + 1) old new in
    let size : n + 1 ≡ length (done ++ b ∷ []) = sym (length_push done b) in
    let go : (t : Bool) → same a b ≡ t → redrawn (cond (t || false) rest ((n, b ∷ half_of new) ∷ rest)) (done ++ healed (a ∷ old)) ≡ done ++ b ∷ new =
    λ t. elim t as (λ t. same a b ≡ t → redrawn (cond (t || false) rest ((n, b ∷ half_of new) ∷ rest)) (done ++ healed (a ∷ old)) ≡ done ++ b ∷ new) [
      | true ↦ λ is.
          let equal : a ≡ b = sound a b is in
          let proper : IsProper columns old = narrow_more columns c joined style old one (subst (λ (x : Cell). IsEnd columns (x ∷ old)) equal end) in
          ap (λ (x : Cell). redrawn rest (done ++ healed (x ∷ old))) equal
          ∙ ap (λ (xs : List Cell). redrawn rest xs) (ap (λ (xs : List Cell). done ++ b ∷ xs) (sym (proper_healed columns old proper)) ∙ sym (append_assoc done (b ∷ []) (healed old)))
          ∙ ap (λ (m : ℕ). redrawn (row_changes same m old new) ((done ++ b ∷ []) ++ healed old)) size
          ∙ others (done ++ b ∷ []) old (proper_end columns old proper) (omega arith)
          ∙ append_assoc done (b ∷ []) new
      | false ↦ λ is.
          ap (λ (half : List Cell). redrawn rest (splice n (b ∷ half) (done ++ healed (a ∷ old)))) alone
          ∙ ap (λ (xs : List Cell). redrawn rest xs) (splice_at done (b ∷ []) (a ∷ old))
          ∙ ap (λ (m : ℕ). redrawn (row_changes same m old new) ((done ++ b ∷ []) ++ healed old)) size
          ∙ others (done ++ b ∷ []) old (end_more columns a old end) (omega arith)
          ∙ append_assoc done (b ∷ []) new
    ] in
    go (same a b) refl

pub or_true : (b : Bool) → (b || true) ≡ true
or_true true = refl
or_true false = refl

-- behind a wide character is its second half, and then a proper row
pub wide_more : (columns : ℕ → ℕ) (c : ℕ) (joined : List ℕ) (style : Style) (a : Cell) (cells : List Cell) → 2 ≤ columns c → IsEnd columns (Holds c joined style ∷ a ∷ cells) → (a ≡ Half) × IsProper columns cells
wide_more columns c joined style Half cells wide h = (refl, h.2)
wide_more columns c joined style (Holds d joined' style') cells wide h = absurd (omega (arith, h.0))

-- the same where the first two are a wide character
wide_step : (columns : ℕ → ℕ) (same : Cell → Cell → Bool) → TellsApart same → (c : ℕ) (joined : List ℕ) (style : Style) (new : List Cell)
    → 2 ≤ columns c → Redraws columns same new → Redraws columns same (Holds c joined style ∷ Half ∷ new)
wide_step columns same sound c joined style new wide others done [] end e = absurd (omega arith)
wide_step columns same sound c joined style new wide others done (a ∷ []) end e = absurd (omega arith)
wide_step columns same sound c joined style new wide others done (a ∷ h ∷ old) end e =
    let b = Holds c joined style in
    let both = b ∷ Half ∷ [] in
    let n = length done in
    let later = row_changes same (n + 1 + 1) old new in
    let rest = row_changes same (n + 1) (h ∷ old) (Half ∷ new) in
    let skipped : rest ≡ later = ap (λ (t : Bool). cond t later ((n + 1, Half ∷ half_of new) ∷ later)) (or_true (same h Half)) in
    let size : n + 1 + 1 ≡ length (done ++ both) = omega (arith, length-append done both) in
    let go : (t : Bool) → same a b ≡ t → redrawn (cond (t || false) rest ((n, both) ∷ rest)) (done ++ healed (a ∷ h ∷ old)) ≡ done ++ b ∷ Half ∷ new =
    λ t. elim t as (λ t. same a b ≡ t → redrawn (cond (t || false) rest ((n, both) ∷ rest)) (done ++ healed (a ∷ h ∷ old)) ≡ done ++ b ∷ Half ∷ new) [
      | true ↦ λ is.
          let equal : a ≡ b = sound a b is in
          let behind = wide_more columns c joined style h old wide (subst (λ (x : Cell). IsEnd columns (x ∷ h ∷ old)) equal end) in
          ap (λ (x : Cell). redrawn rest (done ++ healed (x ∷ h ∷ old))) equal
          ∙ ap (λ (x : Cell). redrawn rest (done ++ b ∷ x ∷ old)) behind.0
          ∙ ap (λ (xs : List Cell). redrawn rest xs) (ap (λ (xs : List Cell). done ++ b ∷ Half ∷ xs) (sym (proper_healed columns old behind.1)) ∙ sym (append_assoc done both (healed old)))
          ∙ ap (λ (cs : List (ℕ × List Cell)). redrawn cs ((done ++ both) ++ healed old)) skipped
          ∙ ap (λ (m : ℕ). redrawn (row_changes same m old new) ((done ++ both) ++ healed old)) size
          ∙ others (done ++ both) old (proper_end columns old behind.1) (omega arith)
          ∙ append_assoc done both new
      | false ↦ λ is.
          ap (λ (xs : List Cell). redrawn rest xs) (splice_at done both (a ∷ h ∷ old))
          ∙ ap (λ (cs : List (ℕ × List Cell)). redrawn cs ((done ++ both) ++ healed old)) skipped
          ∙ ap (λ (m : ℕ). redrawn (row_changes same m old new) ((done ++ both) ++ healed old)) size
          ∙ others (done ++ both) old (end_more columns h old (end_more columns a (h ∷ old) end)) (omega arith)
          ∙ append_assoc done both new
    ] in
    go (same a b) refl

none_step : (columns : ℕ → ℕ) (same : Cell → Cell → Bool) → Redraws columns same []
none_step columns same done [] end e = refl
none_step columns same done (a ∷ old) end e = absurd (omega arith)

-- the claim of every proper row
redraws : (columns : ℕ → ℕ) (same : Cell → Cell → Bool) → TellsApart same → (new : List Cell) → IsProper columns new → Redraws columns same new
redraws columns same sound [] h = none_step columns same
redraws columns same sound (Half ∷ new) h = absurd h
redraws columns same sound (Holds c joined style ∷ []) h = narrow_step columns same sound c joined style [] h.0 refl (redraws columns same sound [] tt)
redraws columns same sound (Holds c joined style ∷ Half ∷ new) h = wide_step columns same sound c joined style new h.0 (redraws columns same sound new h.2)
redraws columns same sound (Holds c joined style ∷ Holds d joined' style' ∷ new) h =
    narrow_step columns same sound c joined style (Holds d joined' style' ∷ new) h.0 refl (redraws columns same sound (Holds d joined' style' ∷ new) h.2)

-- a row with its changes written into it is the new row
pub redrawn_row : (columns : ℕ → ℕ) (same : Cell → Cell → Bool) (old new : List Cell) → TellsApart same → IsProper columns old → IsProper columns new → length old ≡ length new
    → redrawn (row_changes same 0 old new) old ≡ new
redrawn_row columns same old new sound before after size =
    ap (redrawn (row_changes same 0 old new)) (sym (proper_healed columns old before)) ∙ redraws columns same sound new after [] old (proper_end columns old before) size
