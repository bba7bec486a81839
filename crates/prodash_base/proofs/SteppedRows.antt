-- Rows with other steps: their paths, each of them by its place, and loops that have got so far.
use Rattle.std.proofs.Common.{◌≡◌, ℕ, zero, suc, ◌+◌, ◌<◌, ◌≤◌, min, List, [], ◌∷◌, length, get_or, take, drop, set, Option, Some, None, IfSome, refl, sym, ap, ◌∙◌, arith, add-one, set-set, length-take, drop-set-lt, drop-drop}
use Rattle.std.specs.List.{slice_get}
use Rattle.std.specs.Map.{keys_of}
use Rattle.std.specs.Option.{option_map}
use Rattle.std.proofs.lemmas.List.{set-get_or, take-set}
use Rattle.std.proofs.lemmas.Option.{same_Some, slice_get-map, slice_get_read, slice_get_past, get_or_from_slice_get}
use Rattle.prodash_base.specs.declared.progress.Row.{Row}
use Rattle.prodash_base.specs.Rows.{PathRow, RowProgress, row_of, rows_of}
use Rattle.prodash_base.specs.Steps.{with_step, with_steps}

-- a progress at this step
abbrev at_step : ℕ → RowProgress → RowProgress
at_step step p = record p { counter = step }

-- a row with this progress
abbrev with_progress : PathRow → Option RowProgress → PathRow
with_progress row progress = (row.0, record row.1 { progress = progress })

-- a row without progress has every step
pub with_step-none : (step : ℕ) (row : PathRow) → row.1.progress ≡ None → with_step step row ≡ row
with_step-none step row e =
    ap (with_progress row) (ap (option_map (at_step step)) e ∙ sym e)

-- a row has the step of its progress
pub with_step-same : (step : ℕ) (row : PathRow) (p : RowProgress) → row.1.progress ≡ Some p → p.counter ≡ step → with_step step row ≡ row
with_step-same step row p e same =
    ap (with_progress row) (ap (option_map (at_step step)) e ∙ ap (λ n. Some (at_step n p)) (sym same) ∙ sym e)

-- and no other
pub with_step-only : (step : ℕ) (row : PathRow) (p : RowProgress) → row.1.progress ≡ Some p → with_step step row ≡ row → p.counter ≡ step
with_step-only step row p e same =
    let here : Some (at_step step p) ≡ Some p = sym (ap (option_map (at_step step)) e) ∙ ap (λ (r : PathRow). r.1.progress) same ∙ e in
    cc

-- the last of two steps stays
pub with_step-again : (step last : ℕ) (row : PathRow) → with_step last (with_step step row) ≡ with_step last row
with_step-again step last row = elim row.1.progress as (λ (o : Option RowProgress). with_progress row (option_map (at_step last) (option_map (at_step step) o)) ≡ with_progress row (option_map (at_step last) o)) [
  | None ↦ refl
  | Some p ↦ refl
]

-- rows keep their paths
pub keys-with_steps : (steps : List ℕ) (rows : List PathRow) → keys_of (with_steps steps rows) ≡ keys_of rows
keys-with_steps [] rows = refl
keys-with_steps (step ∷ steps) [] = refl
keys-with_steps (step ∷ steps) (row ∷ rows) = ap (λ keys. row.0 ∷ keys) (keys-with_steps steps rows)

-- and their number
pub length-with_steps : (steps : List ℕ) (rows : List PathRow) → length (with_steps steps rows) ≡ length rows
length-with_steps [] rows = refl
length-with_steps (step ∷ steps) [] = refl
length-with_steps (step ∷ steps) (row ∷ rows) = ap suc (length-with_steps steps rows)

-- no steps change nothing
pub with_steps-none : (rows : List PathRow) → with_steps [] rows ≡ rows
with_steps-none rows = refl

-- a row has the step at its place
pub slice_get-with_steps : (steps : List ℕ) (rows : List PathRow) (i step : ℕ) (row : PathRow) → slice_get steps i ≡ Some step → slice_get rows i ≡ Some row
    → slice_get (with_steps steps rows) i ≡ Some (with_step step row)
slice_get-with_steps [] rows i step row at is = cc
slice_get-with_steps (first ∷ steps) [] i step row at is = cc
slice_get-with_steps (first ∷ steps) (r ∷ rows) zero step row at is =
    ap (option_map (λ (s : ℕ). with_step s r)) at ∙ ap (option_map (with_step step)) is
slice_get-with_steps (first ∷ steps) (r ∷ rows) (suc i) step row at is = slice_get-with_steps steps rows i step row at is

-- a row behind the last step stays
pub slice_get-past_steps : (steps : List ℕ) (rows : List PathRow) (i : ℕ) → slice_get steps i ≡ None → slice_get (with_steps steps rows) i ≡ slice_get rows i
slice_get-past_steps [] rows i past = refl
slice_get-past_steps (step ∷ steps) [] i past = refl
slice_get-past_steps (step ∷ steps) (row ∷ rows) zero past = cc
slice_get-past_steps (step ∷ steps) (row ∷ rows) (suc i) past = slice_get-past_steps steps rows i past

-- a row that has the step at its place stays
pub slice_get-has_step : (steps : List ℕ) (rows : List PathRow) (i : ℕ) (row : PathRow) → IfSome (slice_get steps i) (λ step. with_step step row ≡ row) → slice_get rows i ≡ Some row
    → slice_get (with_steps steps rows) i ≡ Some row
slice_get-has_step [] rows i row has is = is
slice_get-has_step (step ∷ steps) [] i row has is = is
slice_get-has_step (step ∷ steps) (r ∷ rows) zero row has is = ap (option_map (with_step step)) is ∙ ap Some has
slice_get-has_step (step ∷ steps) (r ∷ rows) (suc i) row has is = slice_get-has_step steps rows i row has is

-- one more step
pub with_steps-more : (steps : List ℕ) (rows : List PathRow) (n step : ℕ) (row : PathRow) → slice_get steps n ≡ Some step → slice_get rows n ≡ Some row
    → with_steps (take (n + 1) steps) rows ≡ set (with_steps (take n steps) rows) n (with_step step row)
with_steps-more [] rows n step row at is = cc
with_steps-more (first ∷ steps) [] n step row at is = cc
with_steps-more (first ∷ steps) (r ∷ rows) zero step row at is =
    let same : first ≡ step = cc in
    let same_row : r ≡ row = cc in
    λ i. with_step (same i) (same_row i) ∷ rows
with_steps-more (first ∷ steps) (r ∷ rows) (suc n) step row at is =
    rw add-one (ap (λ rest. with_step first r ∷ rest) (sym (rw add-one at (sym (with_steps-more steps rows n step row at is)))))

-- all steps
pub with_steps-all : (steps : List ℕ) (rows : List PathRow) (n : ℕ) → min (length steps) (length rows) ≤ n → with_steps (take n steps) rows ≡ with_steps steps rows
with_steps-all [] rows zero all = refl
with_steps-all [] rows (suc n) all = refl
with_steps-all (step ∷ steps) [] zero all = refl
with_steps-all (step ∷ steps) [] (suc n) all = refl
with_steps-all (step ∷ steps) (row ∷ rows) zero all = absurd (omega arith)
with_steps-all (step ∷ steps) (row ∷ rows) (suc n) all = ap (λ rest. with_step step row ∷ rest) (with_steps-all steps rows n (omega arith))

-- a write of a row behind the last step
with_steps-set : (steps : List ℕ) (rows : List PathRow) (n : ℕ) (row : PathRow) → length steps ≤ n → with_steps steps (set rows n row) ≡ set (with_steps steps rows) n row
with_steps-set [] rows n row past = refl
with_steps-set (step ∷ steps) [] n row past = refl
with_steps-set (step ∷ steps) (r ∷ rows) zero row past = absurd (omega arith)
with_steps-set (step ∷ steps) (r ∷ rows) (suc n) row past = ap (λ rest. with_step step r ∷ rest) (with_steps-set steps rows n row (omega arith))

-- a write of what is there
set_same : (rows : List PathRow) (n : ℕ) (row : PathRow) → slice_get rows n ≡ Some row → set rows n row ≡ rows
set_same rows n row is = sym (ap (set rows n) (get_or_from_slice_get rows n row row is)) ∙ set-get_or rows n row

-- the steps before an index have none there
none_at : (steps : List ℕ) (n : ℕ) → slice_get (take n steps) n ≡ None
none_at steps n = slice_get_past (take n steps) n (omega (arith, length-take n steps))

-- a row at its place
pub row_at : (rows : List Row) (n : ℕ) (row : Row) → n < length rows → row ≡ get_or rows n row → slice_get (rows_of rows) n ≡ Some (row_of row)
row_at rows n row within is = slice_get-map row_of rows n ∙ ap (option_map row_of) (slice_get_read rows (length rows) n row refl within is)

-- one more row that has its step
pub has_more : (steps : List ℕ) (rows : List PathRow) (n step : ℕ) (row : PathRow) → slice_get steps n ≡ Some step → slice_get rows n ≡ Some row
    → with_steps (take n steps) rows ≡ rows → with_step step row ≡ row → with_steps (take (n + 1) steps) rows ≡ rows
has_more steps rows n step row at is before here =
    with_steps-more steps rows n step row at is ∙ (λ i. set (before i) n (here i)) ∙ set_same rows n row is

-- a row that doesn't have its step
pub lacks_step : (steps : List ℕ) (rows : List PathRow) (n step : ℕ) (row : PathRow) → slice_get steps n ≡ Some step → slice_get rows n ≡ Some row
    → with_steps steps rows ≡ rows → with_step step row ≡ row
lacks_step steps rows n step row at is all =
    same_Some (with_step step row) row (sym (slice_get-with_steps steps rows n step row at is) ∙ ap (λ (r : List PathRow). slice_get r n) all ∙ is)

-- what is left begins with what is at the index
left_at : {A : Type 0} (xs : List A) (n : ℕ) → slice_get (drop n xs) 0 ≡ slice_get xs n
left_at xs zero = refl
left_at [] (suc n) = refl
left_at (x ∷ xs) (suc n) = left_at xs n

-- what was written is there
written_at : {A : Type 0} (xs : List A) (n : ℕ) (old new : A) → slice_get xs n ≡ Some old → slice_get (set xs n new) n ≡ Some new
written_at [] n old new is = cc
written_at (x ∷ xs) zero old new is = refl
written_at (x ∷ xs) (suc n) old new is = written_at xs n old new is

-- rows and steps that have been exchanged up to an index
pub record Swapped (old : List ℕ) (old_rows : List PathRow) (now : List ℕ) (rows : List PathRow) (n : ℕ) : Type 0 where
  pub after : rows ≡ with_steps (take n old) old_rows
  pub back : with_steps (take n now) rows ≡ old_rows
  pub left : drop n now ≡ drop n old

-- one more of them
pub swapped_more : (old : List ℕ) (old_rows : List PathRow) (now : List ℕ) (rows : List PathRow) (n step new_step : ℕ) (row new_row : PathRow)
    → slice_get now n ≡ Some step → slice_get rows n ≡ Some row → new_row ≡ with_step step row → with_step new_step new_row ≡ row → Swapped old old_rows now rows n
    → Swapped old old_rows (set now n new_step) (set rows n new_row) (n + 1)
swapped_more old old_rows now rows n step new_step row new_row at is after back h =
    let old_at : slice_get old n ≡ Some step =
    sym (left_at old n) ∙ ap (λ (l : List ℕ). slice_get l 0) (sym h.left) ∙ left_at now n ∙ at in
    let old_is : slice_get old_rows n ≡ Some row =
    sym (ap (λ (r : List PathRow). slice_get r n) h.back) ∙ slice_get-past_steps (take n now) rows n (none_at now n) ∙ is in
    record {
      after = (λ i. set (h.after i) n (after i)) ∙ sym (with_steps-more old old_rows n step row old_at old_is);
      back =
          with_steps-more (set now n new_step) (set rows n new_row) n new_step new_row (written_at now n step new_step at) (written_at rows n row new_row is)
          ∙ (λ i. set (with_steps (take-set now n new_step i) (set rows n new_row)) n (back i))
          ∙ ap (λ (r : List PathRow). set r n row) (with_steps-set (take n now) rows n new_row (omega (arith, length-take n now)))
          ∙ set-set (with_steps (take n now) rows) n new_row row
          ∙ ap (λ (r : List PathRow). set r n row) h.back
          ∙ set_same old_rows n row old_is;
      left = drop-set-lt (n + 1) now n new_step (omega arith) ∙ sym (drop-drop 1 n now) ∙ ap (drop 1) h.left ∙ drop-drop 1 n old;
    }
