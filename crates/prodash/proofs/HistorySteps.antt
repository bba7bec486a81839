-- The exchange that appends an entry keeps the rule of histories.
use Rattle.std.proofs.Common.{◌≡◌, ℕ, ◌+◌, ◌<◌, ◌≤◌, ◌==◌, Bool, true, false, List, [], ◌∷◌, ◌++◌, length, refl, ap, sym, subst, arith, inl, length-append, None}
use Rattle.std.proofs.lemmas.List.{append-nil}
use Rattle.std.proofs.lemmas.Bool.Decides.{nat_tests}
use mathlib.Core.List.{IsPrefix}
use prog.Atomic.{either}
use Rattle.logbook.specs.Pages.{Cell, cell, keeps, no_nib, step, Moves, Goes}
use Rattle.prodash.specs.declared.tree.recorded.history.HistoryEntry.{HistoryEntry}
use Rattle.prodash.specs.plumbing.Histories.{IsOrderly, IsOpen, IsKept, Appends}
use Rattle.prodash.proofs.ListPrefixes.{prefix_whole, prefix_trans, prefix_length}
use Rattle.prodash.proofs.HistoryLaws.{orderly_more}

abbrev pub shown : List HistoryEntry → List HistoryEntry
shown log = []

abbrev pub moved : List HistoryEntry → List HistoryEntry → ℕ → Type 0
moved xs ys n = Unit {0}

-- The word has the length of a history h, and more may have been seen of it.
pub append_goes : (log v h : List HistoryEntry) (e : HistoryEntry) (old : ℕ) → length h ≡ old → IsPrefix h v → IsOpen h → IsOrderly log → IsPrefix v log
    → (b : Bool) → (length log == old) ≡ b
    → Goes IsKept shown moved 0 (v, (no_nib, None)) (λ n. either (n == old) (old + 1) n) (Appends (step 0 old (old + 1) e) (v, (no_nib, None))) ((length log, true) ∷ (0, true) ∷ []) log
append_goes log v h e old len begins may orderly pre true is =
    let here : length log ≡ old = grind (arith, nat_tests) in
    let long : length h ≤ length v = prefix_length h v begins in
    let short : length v ≤ length log = prefix_length v log pre in
    let whole : v ≡ log = prefix_whole v log pre (omega arith) in
    let same : h ≡ log = prefix_whole h log (prefix_trans h v log begins pre) (omega arith) in
    let orderly' : IsOrderly (log ++ e ∷ []) = orderly_more log e (subst IsOpen same may) in
    let n : either (length log == old) (old + 1) (length log) ≡ length (log ++ e ∷ []) = rw is (omega (arith, length-append log (e ∷ []))) in
    let all : length v ≡ old = omega arith in (
      keeps,
      e ∷ [],
      None,
      tt,
      record { words = ap (λ (k : ℕ). (k, true) ∷ (0, true) ∷ []) n; orderly = orderly' },
      inl (refl, refl),
      rw is (ap (λ w. w ++ e ∷ []) (sym whole), all, orderly'),
    )
append_goes log v h e old len begins may orderly pre false is =
    let all : log ++ [] ≡ log = append-nil log in
    let orderly' : IsOrderly (log ++ []) = subst IsOrderly (sym all) orderly in
    let n : either (length log == old) (old + 1) (length log) ≡ length (log ++ []) = rw is (ap length (sym all)) in (
      keeps,
      [],
      None,
      tt,
      record { words = ap (λ (k : ℕ). (k, true) ∷ (0, true) ∷ []) n; orderly = orderly' },
      inl (refl, refl),
      rw is (ap length all, orderly'),
    )

pub append_moves : (v h : List HistoryEntry) (e : HistoryEntry) (old : ℕ) → length h ≡ old → IsPrefix h v → IsOpen h
    → Moves IsKept shown moved 0 (v, (no_nib, None)) (λ n. either (n == old) (old + 1) n) (Appends (step 0 old (old + 1) e) (v, (no_nib, None)))
append_moves v h e old len begins may cs log kept pre away =
    let P : List Cell → Type 0 = λ c. (0 < length c) × ((cell c 0).1 ≡ true) × Goes IsKept shown moved 0 (v, (no_nib, None)) (λ n. either (n == old) (old + 1) n) (Appends (step 0 old (old + 1) e) (v, (no_nib, None))) c log in
    subst P (sym kept.words) (omega arith, refl, append_goes log v h e old len begins may kept.orderly pre (length log == old) refl)
