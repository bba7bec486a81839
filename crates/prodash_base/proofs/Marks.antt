-- The marks of tasks: as many as are kept.
use Rattle.std.proofs.Common.{◌≡◌, ℕ, suc, ◌-◌, ◌<◌, nat_lt, Bool, true, false, cond, List, [], ◌∷◌, length, take, get_or, Option, Some, None, refl, ap, ◌∙◌, arith}
use Rattle.std.specs.Prelude.{IfSome}
use Rattle.std.specs.Ordering.{is_eq}
use Rattle.std.specs.declared.cmp.Ordering.{Ordering}
use Rattle.std.specs.declared.cmp.Ordering.TheVariants.{Less, Equal, Greater}
use Rattle.std.specs.FinMap.{find, put}
use Rattle.std.specs.FinMap.Entries.{by_order}
use Rattle.std.proofs.lemmas.List.{length-take, length-replicate}
use Rattle.prodash_base.specs.Path.{Path, path_cmp}
use Rattle.prodash_base.specs.Rows.{PathRow, RowProgress}
use Rattle.prodash_base.specs.Samples.{one_second}
use Rattle.prodash_base.specs.Timers.{kept_marks, mark_at, with_mark, earliest_mark, Timing, Timings, begins_anew, first_timing, later_timing, next_timing, with_timing, with_timings, HoldsMarks}
use Rattle.prodash_base.specs.declared.timing.marks.Mark.{Mark}

-- the earliest mark is the last of the list
pub earliest_last : (marks : List Mark) (d e : Mark) → 0 < length marks → get_or marks (length marks - 1) d ≡ earliest_mark e marks
earliest_last [] d e l = absurd (omega arith)
earliest_last (m ∷ []) d e l = refl
earliest_last (m ∷ n ∷ marks) d e l =
    ap (λ i. get_or (m ∷ n ∷ marks) i d) (let next : length (m ∷ n ∷ marks) - 1 ≡ suc (length (n ∷ marks) - 1) = omega arith in next)
    ∙ earliest_last (n ∷ marks) d m (omega arith)

-- a task holds as many marks as are kept
abbrev Holds : Timing → Type 0
Holds t = length t.marks ≡ kept_marks

either_length : (b : Bool) (xs ys : List Mark) (n : ℕ) → length xs ≡ n → length ys ≡ n → length (cond b xs ys) ≡ n
either_length true xs ys n h i = h
either_length false xs ys n h i = i

marked : (mark : Mark) (marks : List Mark) → length marks ≡ kept_marks → length (with_mark mark marks) ≡ kept_marks
marked mark [] e = e
marked mark (latest ∷ older) e =
    let taken : length (take (length older) (latest ∷ older)) ≡ length older = omega (arith, length-take (length older) (latest ∷ older)) in
    either_length (nat_lt one_second (mark.at - latest.at)) (mark ∷ take (length older) (latest ∷ older)) (latest ∷ older) kept_marks (ap suc taken ∙ e) e

either_holds : (b : Bool) (s t : Timing) → Holds s → Holds t → Holds (cond b s t)
either_holds true s t h i = h
either_holds false s t h i = i

begun : (now : ℕ) (p : RowProgress) → Holds (first_timing now p)
begun now p = length-replicate kept_marks (mark_at now p.counter)

next_holds : (known : Option Timing) (now : ℕ) (p : RowProgress) → IfSome known Holds → Holds (next_timing known now p)
next_holds None now p h = begun now p
next_holds (Some t) now p h = either_holds (begins_anew t p) (first_timing now p) (later_timing t now p) (begun now p) (marked (mark_at now p.counter) t.marks h)

found_holds : (b : Bool) (t : Timing) (o : Option Timing) → Holds t → IfSome o Holds → IfSome (cond b (Some t) o) Holds
found_holds true t o h i = h
found_holds false t o h i = i

find_holds : (es : Timings) (path : Path) → HoldsMarks es → IfSome (find path_cmp path es) Holds
find_holds [] path h = tt
find_holds (e ∷ es) path h = found_holds (is_eq (path_cmp path e.0)) e.1 (find path_cmp path es) h.0 (find_holds es path h.1)

ordered_holds : (o : Ordering) (xs ys zs : Timings) → HoldsMarks xs → HoldsMarks ys → HoldsMarks zs → HoldsMarks (by_order o xs ys zs)
ordered_holds Less xs ys zs h i j = h
ordered_holds Equal xs ys zs h i j = i
ordered_holds Greater xs ys zs h i j = j

put_holds : (es : Timings) (path : Path) (t : Timing) → HoldsMarks es → Holds t → HoldsMarks (put path_cmp path t es)
put_holds [] path t h i = (i, tt)
put_holds (e ∷ es) path t h i =
    ordered_holds (path_cmp path e.0) ((path, t) ∷ e ∷ es) ((e.0, t) ∷ es) (e ∷ put path_cmp path t es) (i, h) (i, h.1) (h.0, put_holds es path t h.1 i)

row_holds : (before : Timings) (now : ℕ) (es : Timings) (path : Path) (p : Option RowProgress) → HoldsMarks before → HoldsMarks es → HoldsMarks (with_timing before now es path p)
row_holds before now es path None h i = i
row_holds before now es path (Some p) h i = put_holds es path _ i (next_holds (find path_cmp path before) now p (find_holds before path h))

-- so do all tasks after a tick
pub rows_hold : (before : Timings) (now : ℕ) (es : Timings) (rows : List PathRow) → HoldsMarks before → HoldsMarks es → HoldsMarks (with_timings before now es rows)
rows_hold before now es [] h i = i
rows_hold before now es (row ∷ rows) h i = rows_hold before now (with_timing before now es row.0 row.1.progress) rows h (row_holds before now es row.0 row.1.progress h i)
