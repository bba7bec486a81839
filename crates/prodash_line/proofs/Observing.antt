-- Rows that a tracker observes: one after another they give what they give as a list.
use Rattle.std.proofs.Common.{◌≡◌, ℕ, suc, List, [], ◌∷◌, ◌++◌, length, Option, Some, None, refl, ap, map}
use Rattle.std.specs.Prelude.{zip}
use Rattle.std.specs.Option.{option_map}
use Rattle.prodash_base.specs.Rows.{PathRow}
use Rattle.prodash_base.specs.Trackers.{Tracker, observe, observe_rows, throughput_of, throughputs_of, step_of, update_elapsed, reconcile, after_frame}
use Rattle.prodash_line.specs.ProgressRows.{with_throughputs}
use Rattle.prodash_line.specs.plumbing.Observing.{tracker_at, throughput_by, observe_by, shown_by, observe_all}

without_tracker : (rows : List PathRow) → shown_by None rows ≡ map (λ row. (row, None)) rows
without_tracker [] = refl
without_tracker (row ∷ rows) = ap (λ others. (row, None) ∷ others) (without_tracker rows)

with_tracker : (t : Tracker) (rows : List PathRow) → shown_by (Some t) rows ≡ zip rows (throughputs_of t rows)
with_tracker t [] = refl
with_tracker t (row ∷ rows) = ap (λ others. (row, throughput_of t row.0 (step_of row)) ∷ others) (with_tracker (observe t row.0 (step_of row)) rows)

pub shown_at : (tracker : Option Tracker) (at : ℕ) (rows : List PathRow) → shown_by (tracker_at at tracker) rows ≡ with_throughputs tracker at rows
shown_at None at rows = without_tracker rows
shown_at (Some t) at rows = with_tracker (update_elapsed t at) rows

nothing_observed : (rows : List PathRow) → observe_all None rows ≡ None
nothing_observed [] = refl
nothing_observed (row ∷ rows) = nothing_observed rows

all_observed : (t : Tracker) (rows : List PathRow) → observe_all (Some t) rows ≡ Some (observe_rows t rows)
all_observed t [] = refl
all_observed t (row ∷ rows) = all_observed (observe t row.0 (step_of row)) rows

-- rows in two parts
pub shown_by-append : (tracker : Option Tracker) (xs ys : List PathRow) → shown_by tracker (xs ++ ys) ≡ shown_by tracker xs ++ shown_by (observe_all tracker xs) ys
shown_by-append tracker [] ys = refl
shown_by-append tracker (row ∷ xs) ys = ap (λ others. (row, throughput_by tracker row) ∷ others) (shown_by-append (observe_by tracker row) xs ys)

pub observe_all-append : (tracker : Option Tracker) (xs ys : List PathRow) → observe_all tracker (xs ++ ys) ≡ observe_all (observe_all tracker xs) ys
observe_all-append tracker [] ys = refl
observe_all-append tracker (row ∷ xs) ys = observe_all-append (observe_by tracker row) xs ys

pub length-shown_by : (tracker : Option Tracker) (rows : List PathRow) → length (shown_by tracker rows) ≡ length rows
length-shown_by tracker [] = refl
length-shown_by tracker (row ∷ rows) = ap suc (length-shown_by (observe_by tracker row) rows)

-- the tracker after a frame
pub observed_at : (tracker : Option Tracker) (at : ℕ) (drawn rows : List PathRow)
    → option_map (λ t. reconcile t rows) (observe_all (tracker_at at tracker) drawn) ≡ option_map (λ t. after_frame t at drawn rows) tracker
observed_at None at drawn rows = ap (λ o. option_map (λ t. reconcile t rows) o) (nothing_observed drawn)
observed_at (Some t) at drawn rows = ap (λ o. option_map (λ t. reconcile t rows) o) (all_observed (update_elapsed t at) drawn)
