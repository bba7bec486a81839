-- Rows that are blanked one after another.
use Rattle.std.proofs.Common.{◌≡◌, ℕ, ◌+◌, ◌-◌, ◌<◌, ◌≤◌, List, [], ◌∷◌, ◌++◌, set, length, take, drop, replicate, ap, ◌∙◌, sym, append_assoc, length-append, arith}
use Rattle.std.proofs.lemmas.List.{set_at, length-replicate, length-take-le, drop_more, replicate-append-replicate}

-- the first rows as they were, blank ones up to this row, and the others as they were: with this one blank too
pub erase_next : {X : Type 0} (first row : ℕ) (rows : List X) (blank : X) → first ≤ row → row < length rows
    → set (take first rows ++ (replicate (row - first) blank ++ drop row rows)) row blank
    ≡ take first rows ++ (replicate (row + 1 - first) blank ++ drop (row + 1) rows)
erase_next {X} first row rows blank le lt =
    let n = row - first in
    let before = take first rows ++ replicate n blank in
    let taken : length (take first rows) ≡ first = length-take-le first rows (omega arith) in
    let filled : length (replicate {A = X} n blank) ≡ n = length-replicate n blank in
    let size : length before ≡ row = omega (arith, length-append (take first rows) (replicate n blank)) in
    ap (λ (r : List X). set (take first rows ++ (replicate n blank ++ r)) row blank) (drop_more rows row blank lt)
    ∙ ap (λ (r : List X). set r row blank) (sym (append_assoc (take first rows) (replicate n blank) _))
    ∙ set_at before _ (drop (row + 1) rows) blank row size
    ∙ append_assoc (take first rows) (replicate n blank) (blank ∷ drop (row + 1) rows)
    ∙ ap (λ (r : List X). take first rows ++ r)
    (sym (append_assoc (replicate n blank) (blank ∷ []) (drop (row + 1) rows))
    ∙ ap (λ (r : List X). r ++ drop (row + 1) rows) (replicate-append-replicate n 1 blank ∙ ap (λ (k : ℕ). replicate k blank) (let e : n + 1 ≡ row + 1 - first = omega arith in e)))
