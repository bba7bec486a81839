-- The rows that are chosen by quotas are those before which fewer rows come than fit.
use Rattle.std.proofs.Common.{◌≡◌, ℕ, ◌+◌, ◌-◌, ◌≤◌, nat_lt, Bool, true, false, cond, List, [], ◌∷◌, ◌++◌, length, map, refl, sym, ap, subst, ◌∙◌, suc, append-nil, length-append, arith}
use Rattle.std.specs.Prelude.{min, zip, ◌||◌, take_while}
use Rattle.std.specs.List.{list_any, filter}
use Rattle.std.proofs.lemmas.List.{length-map}
use Rattle.std.proofs.lemmas.List.Elements.{filter-append}
use Rattle.std.proofs.lemmas.List.Sums.{take_while-cons, length-filter, count_by-le-length}
use Rattle.std.proofs.lemmas.Bool.Decides.{nat_tests}
use Rattle.prodash_base.specs.Rows.{PathRow}
use Rattle.prodash_line.specs.declared.render.line.draw.rank.Standing.{Standing}
use Rattle.prodash_line.specs.declared.render.line.draw.rank.Rank.{Rank}
use Rattle.prodash_line.specs.declared.render.line.draw.rank.Rank.TheVariants as ranks
use Rattle.prodash_line.specs.declared.render.line.draw.rank.Quotas.{Quotas}
use Rattle.prodash_line.specs.RowRanks.{has_standing, is_deeper, is_above, ranks_of, is_before, same_rank, place, places_from, places}
use Rattle.prodash_line.specs.plumbing.Choosing.{quotas_of, quota, lessened, reserved, taken, all_reserved, chosen}

-- ---- rows below a row

above_by : (standing : Standing) (row other : PathRow) (others : List PathRow) (deeper : Bool)
    → list_any (has_standing standing) (cond deeper (other ∷ take_while (is_deeper row) others) []) ≡ cond deeper (has_standing standing other || is_above standing row others) false
above_by standing row other others true = refl
above_by standing row other others false = refl

-- a row is above what the next row is if that is deeper, and what the rows after it are
pub above_next : (standing : Standing) (row other : PathRow) (others : List PathRow)
    → is_above standing row (other ∷ others) ≡ cond (is_deeper row other) (has_standing standing other || is_above standing row others) false
above_next standing row other others =
    ap (list_any (has_standing standing)) (take_while-cons (is_deeper row) other others) ∙ above_by standing row other others (is_deeper row other)

-- it is above one if the next row is below it and has that standing
pub above_reached : (standing : Standing) (row other : PathRow) (others : List PathRow)
    → is_deeper row other ≡ true → has_standing standing other ≡ true → is_above standing row (other ∷ others) ≡ true
above_reached standing row other others deeper has =
    above_next standing row other others ∙ ap (λ (b : Bool). cond b (has_standing standing other || is_above standing row others) false) deeper
    ∙ ap (λ (b : Bool). b || is_above standing row others) has

-- and else as it is above one of the rows after that
pub above_passed : (standing : Standing) (row other : PathRow) (others : List PathRow)
    → is_deeper row other ≡ true → has_standing standing other ≡ false → is_above standing row (other ∷ others) ≡ is_above standing row others
above_passed standing row other others deeper has =
    above_next standing row other others ∙ ap (λ (b : Bool). cond b (has_standing standing other || is_above standing row others) false) deeper
    ∙ ap (λ (b : Bool). b || is_above standing row others) has

-- ---- quotas

-- the quotas after rows of these ranks are taken from those of later ranks, from what they were
abbrev without_earlier : Quotas → List Rank → Quotas
without_earlier q all = record {
  running = q.running - length (filter (λ other. is_before other ranks.Running) all);
  above_running = q.above_running - length (filter (λ other. is_before other ranks.AboveRunning) all);
  waiting = q.waiting - length (filter (λ other. is_before other ranks.Waiting) all);
  above_waiting = q.above_waiting - length (filter (λ other. is_before other ranks.AboveWaiting) all);
  finished = q.finished - length (filter (λ other. is_before other ranks.Finished) all);
}

less_by : (n : ℕ) (test : Bool) (rank : Rank) (others : List Rank) → lessened test n - length others ≡ n - length (cond test (rank ∷ others) others)
less_by n true rank others = omega arith
less_by n false rank others = refl

none_earlier : (all : List Rank) → length (filter (λ other. is_before other ranks.Running) all) ≡ 0
none_earlier [] = refl
none_earlier (ranks.Running ∷ others) = none_earlier others
none_earlier (ranks.AboveRunning ∷ others) = none_earlier others
none_earlier (ranks.Waiting ∷ others) = none_earlier others
none_earlier (ranks.AboveWaiting ∷ others) = none_earlier others
none_earlier (ranks.Finished ∷ others) = none_earlier others

none_by : (n : ℕ) → n ≡ n - 0
none_by n = omega arith

pub all_reserved_are : (q : Quotas) (all : List Rank) → all_reserved q all ≡ without_earlier q all
all_reserved_are q [] = λ i. record {
  running = none_by q.running i;
  above_running = none_by q.above_running i;
  waiting = none_by q.waiting i;
  above_waiting = none_by q.above_waiting i;
  finished = none_by q.finished i;
}
all_reserved_are q (rank ∷ others) =
    all_reserved_are (reserved q rank) others
    ∙ (λ i. record {
      running = q.running - (none_earlier others ∙ sym (none_earlier (rank ∷ others))) i;
      above_running = less_by q.above_running (is_before rank ranks.AboveRunning) rank (filter (λ other. is_before other ranks.AboveRunning) others) i;
      waiting = less_by q.waiting (is_before rank ranks.Waiting) rank (filter (λ other. is_before other ranks.Waiting) others) i;
      above_waiting = less_by q.above_waiting (is_before rank ranks.AboveWaiting) rank (filter (λ other. is_before other ranks.AboveWaiting) others) i;
      finished = less_by q.finished (is_before rank ranks.Finished) rank (filter (λ other. is_before other ranks.Finished) others) i;
    })

-- ---- the rows that are chosen

-- how many rows of a rank are drawn if n rows are, of all, without those above
abbrev left_for : ℕ → List Rank → List Rank → Rank → ℕ
left_for n all above rank = n - length (filter (λ other. is_before other rank) all) - length (filter (λ other. same_rank other rank) above)

-- the same of each rank
abbrev left_of : ℕ → List Rank → List Rank → Quotas
left_of n all above = record {
  running = left_for n all above ranks.Running;
  above_running = left_for n all above ranks.AboveRunning;
  waiting = left_for n all above ranks.Waiting;
  above_waiting = left_for n all above ranks.AboveWaiting;
  finished = left_for n all above ranks.Finished;
}

quota_left : (n : ℕ) (all above : List Rank) (rank : Rank) → quota (left_of n all above) rank ≡ left_for n all above rank
quota_left n all above ranks.Running = refl
quota_left n all above ranks.AboveRunning = refl
quota_left n all above ranks.Waiting = refl
quota_left n all above ranks.AboveWaiting = refl
quota_left n all above ranks.Finished = refl

one_more : (m : ℕ) (test : Bool) (rank : Rank) (xs : List Rank) → lessened test (m - length xs) ≡ m - length (xs ++ cond test (rank ∷ []) [])
one_more m true rank xs =
    let more : length (xs ++ rank ∷ []) ≡ length xs + 1 = length-append xs (rank ∷ []) in
    omega arith
one_more m false rank xs = ap (λ (ys : List Rank). m - length ys) (sym (append-nil xs))

-- of one rank
left_next : (n : ℕ) (all above : List Rank) (rank of : Rank) → lessened (same_rank rank of) (left_for n all above of) ≡ left_for n all (above ++ rank ∷ []) of
left_next n all above rank of =
    let same : Rank → Bool = λ other. same_rank other of in
    one_more (n - length (filter (λ other. is_before other of) all)) (same_rank rank of) rank (filter same above)
    ∙ ap (λ (ys : List Rank). n - length (filter (λ other. is_before other of) all) - length ys) (sym (filter-append same above (rank ∷ [])))

taken_next : (n : ℕ) (all above : List Rank) (rank : Rank) → taken (left_of n all above) rank ≡ left_of n all (above ++ rank ∷ [])
taken_next n all above rank = λ i. record {
  running = left_next n all above rank ranks.Running i;
  above_running = left_next n all above rank ranks.AboveRunning i;
  waiting = left_next n all above rank ranks.Waiting i;
  above_waiting = left_next n all above rank ranks.AboveWaiting i;
  finished = left_next n all above rank ranks.Finished i;
}

-- there is room for a row exactly if fewer than n come before it
has_room : (n a b : ℕ) → nat_lt 0 (n - a - b) ≡ nat_lt (a + b) n
has_room n a b = grind (arith, nat_tests)

-- those of rows whose places are below n
abbrev pub below : {X : Type 0} → ℕ → List ℕ → List X → List X
below n places rows = map (λ it. it.1) (filter (λ it. nat_lt it.0 n) (zip places rows))

below_by : {X : Type 0} (n at : ℕ) (others : List ℕ) (row : X) (rows : List X) (test : Bool) → cond test (row ∷ below n others rows) (below n others rows)
    ≡ map (λ it. it.1) (cond test ((at, row) ∷ filter (λ it. nat_lt it.0 n) (zip others rows)) (filter (λ it. nat_lt it.0 n) (zip others rows)))
below_by n at others row rows true = refl
below_by n at others row rows false = refl

chosen_from : {X : Type 0} (n : ℕ) (all above ranks : List Rank) (rows : List X) → chosen (left_of n all above) ranks rows ≡ below n (places_from all above ranks) rows
chosen_from n all above [] rows = refl
chosen_from n all above (rank ∷ others) [] = refl
chosen_from n all above (rank ∷ others) (row ∷ rows) =
    let test : nat_lt 0 (quota (left_of n all above) rank) ≡ nat_lt (place all above rank) n =
    ap (nat_lt 0) (quota_left n all above rank)
    ∙ has_room n (length (filter (λ other. is_before other rank) all)) (length (filter (λ other. same_rank other rank) above)) in
    let rest : chosen (taken (left_of n all above) rank) others rows ≡ below n (places_from all (above ++ rank ∷ []) others) rows =
    ap (λ (q : Quotas). chosen q others rows) (taken_next n all above rank) ∙ chosen_from n all (above ++ rank ∷ []) others rows in
    (λ i. cond (test i) (row ∷ rest i) (rest i))
    ∙ below_by n (place all above rank) (places_from all (above ++ rank ∷ []) others) row rows (nat_lt (place all above rank) n)

left_at_first : (n : ℕ) (all : List Rank) → without_earlier (quotas_of n) all ≡ left_of n all []
left_at_first n all = λ i. record {
  running = none_by (n - length (filter (λ other. is_before other ranks.Running) all)) i;
  above_running = none_by (n - length (filter (λ other. is_before other ranks.AboveRunning) all)) i;
  waiting = none_by (n - length (filter (λ other. is_before other ranks.Waiting) all)) i;
  above_waiting = none_by (n - length (filter (λ other. is_before other ranks.AboveWaiting) all)) i;
  finished = none_by (n - length (filter (λ other. is_before other ranks.Finished) all)) i;
}

-- the rows for which there is room are those before which fewer than n come
pub chosen_are : {X : Type 0} (n : ℕ) (rows : List PathRow) (xs : List X) → chosen (all_reserved (quotas_of n) (ranks_of rows)) (ranks_of rows) xs ≡ below n (places rows) xs
chosen_are n rows xs =
    let all = ranks_of rows in
    ap (λ (q : Quotas). chosen q all xs) (all_reserved_are (quotas_of n) all ∙ left_at_first n all) ∙ chosen_from n all [] all xs

-- ---- how many they are

-- how many have this rank
abbrev number : Rank → List Rank → ℕ
number of all = length (filter (λ other. same_rank other of) all)

-- how many come before those that have this rank
abbrev earlier : Rank → List Rank → ℕ
earlier of all = length (filter (λ other. is_before other of) all)

record Counts (all : List Rank) : Type 0 where
  running : earlier ranks.Running all ≡ 0
  above_running : earlier ranks.AboveRunning all ≡ number ranks.Running all
  waiting : earlier ranks.Waiting all ≡ number ranks.Running all + number ranks.AboveRunning all
  above_waiting : earlier ranks.AboveWaiting all ≡ number ranks.Running all + number ranks.AboveRunning all + number ranks.Waiting all
  finished : earlier ranks.Finished all ≡ number ranks.Running all + number ranks.AboveRunning all + number ranks.Waiting all + number ranks.AboveWaiting all
  whole : length all ≡ number ranks.Running all + number ranks.AboveRunning all + number ranks.Waiting all + number ranks.AboveWaiting all + number ranks.Finished all

counts_of : (all : List Rank) → Counts all
counts_of [] = record { running = refl; above_running = refl; waiting = refl; above_waiting = refl; finished = refl; whole = refl }
counts_of (ranks.Running ∷ others) =
    let h = counts_of others in
    record {
      running = omega (arith, h.running);
      above_running = omega (arith, h.above_running);
      waiting = omega (arith, h.waiting);
      above_waiting = omega (arith, h.above_waiting);
      finished = omega (arith, h.finished);
      whole = omega (arith, h.whole);
    }
counts_of (ranks.AboveRunning ∷ others) =
    let h = counts_of others in
    record {
      running = omega (arith, h.running);
      above_running = omega (arith, h.above_running);
      waiting = omega (arith, h.waiting);
      above_waiting = omega (arith, h.above_waiting);
      finished = omega (arith, h.finished);
      whole = omega (arith, h.whole);
    }
counts_of (ranks.Waiting ∷ others) =
    let h = counts_of others in
    record {
      running = omega (arith, h.running);
      above_running = omega (arith, h.above_running);
      waiting = omega (arith, h.waiting);
      above_waiting = omega (arith, h.above_waiting);
      finished = omega (arith, h.finished);
      whole = omega (arith, h.whole);
    }
counts_of (ranks.AboveWaiting ∷ others) =
    let h = counts_of others in
    record {
      running = omega (arith, h.running);
      above_running = omega (arith, h.above_running);
      waiting = omega (arith, h.waiting);
      above_waiting = omega (arith, h.above_waiting);
      finished = omega (arith, h.finished);
      whole = omega (arith, h.whole);
    }
counts_of (ranks.Finished ∷ others) =
    let h = counts_of others in
    record {
      running = omega (arith, h.running);
      above_running = omega (arith, h.above_running);
      waiting = omega (arith, h.waiting);
      above_waiting = omega (arith, h.above_waiting);
      finished = omega (arith, h.finished);
      whole = omega (arith, h.whole);
    }

-- how many of these ranks there is room for
abbrev room : Quotas → List Rank → ℕ
room q all =
    min q.running (number ranks.Running all)
    + min q.above_running (number ranks.AboveRunning all)
    + min q.waiting (number ranks.Waiting all)
    + min q.above_waiting (number ranks.AboveWaiting all)
    + min q.finished (number ranks.Finished all)

-- one more of a rank for which there is room
room_by : (m : ℕ) (test : Bool) (rank : Rank) (xs : List Rank) → min m (length (cond test (rank ∷ xs) xs)) ≡ min (lessened test m) (length xs) + cond test (cond (nat_lt 0 m) 1 0) 0
room_by m true rank xs = grind (arith, nat_tests)
room_by m false rank xs = omega arith

one_rank : (q : Quotas) (rank : Rank)
    → cond (same_rank rank ranks.Running) (cond (nat_lt 0 q.running) 1 0) 0
    + cond (same_rank rank ranks.AboveRunning) (cond (nat_lt 0 q.above_running) 1 0) 0
    + cond (same_rank rank ranks.Waiting) (cond (nat_lt 0 q.waiting) 1 0) 0
    + cond (same_rank rank ranks.AboveWaiting) (cond (nat_lt 0 q.above_waiting) 1 0) 0
    + cond (same_rank rank ranks.Finished) (cond (nat_lt 0 q.finished) 1 0) 0
    ≡ cond (nat_lt 0 (quota q rank)) 1 0
one_rank q ranks.Running = omega arith
one_rank q ranks.AboveRunning = omega arith
one_rank q ranks.Waiting = omega arith
one_rank q ranks.AboveWaiting = omega arith
one_rank q ranks.Finished = omega arith

room_next : (q : Quotas) (rank : Rank) (others : List Rank) → room q (rank ∷ others) ≡ cond (nat_lt 0 (quota q rank)) 1 0 + room (taken q rank) others
room_next q rank others =
    let of : Rank → List Rank = λ it. filter (λ other. same_rank other it) others in
    let a = room_by q.running (same_rank rank ranks.Running) rank (of ranks.Running) in
    let b = room_by q.above_running (same_rank rank ranks.AboveRunning) rank (of ranks.AboveRunning) in
    let c = room_by q.waiting (same_rank rank ranks.Waiting) rank (of ranks.Waiting) in
    let d = room_by q.above_waiting (same_rank rank ranks.AboveWaiting) rank (of ranks.AboveWaiting) in
    let e = room_by q.finished (same_rank rank ranks.Finished) rank (of ranks.Finished) in
    let one = one_rank q rank in
    omega (arith, a, b, c, d, e, one)

length_by : {X : Type 0} (test : Bool) (row : X) (rows : List X) → length (cond test (row ∷ rows) rows) ≡ cond test 1 0 + length rows
length_by true row rows = omega arith
length_by false row rows = omega arith

length-chosen : {X : Type 0} (q : Quotas) (all : List Rank) (rows : List X) → length rows ≡ length all → length (chosen q all rows) ≡ room q all
length-chosen q [] rows e = omega arith
length-chosen q (rank ∷ others) [] e = cc
length-chosen q (rank ∷ others) (row ∷ rows) e =
    let rest = length-chosen (taken q rank) others rows (omega (arith, e)) in
    length_by (nat_lt 0 (quota q rank)) row (chosen (taken q rank) others rows)
    ∙ ap (λ (n : ℕ). cond (nat_lt 0 (quota q rank)) 1 0 + n) rest
    ∙ sym (room_next q rank others)

fill : (n a c : ℕ) → min n a + min (n - a) c ≡ min n (a + c)
fill n a c = omega arith

room_for_all : (n : ℕ) (all : List Rank) → room (without_earlier (quotas_of n) all) all ≡ min n (length all)
room_for_all n all =
    let h = counts_of all in
    let c0 = number ranks.Running all in
    let c1 = number ranks.AboveRunning all in
    let c2 = number ranks.Waiting all in
    let c3 = number ranks.AboveWaiting all in
    let c4 = number ranks.Finished all in
    let a : min (n - earlier ranks.Running all) c0 ≡ min n c0 = ap (λ (k : ℕ). min (n - k) c0) h.running ∙ ap (λ (k : ℕ). min k c0) (sym (none_by n)) in
    let b : min n c0 + min (n - earlier ranks.AboveRunning all) c1 ≡ min n (c0 + c1) = ap (λ (k : ℕ). min n c0 + min (n - k) c1) h.above_running ∙ fill n c0 c1 in
    let c : min n (c0 + c1) + min (n - earlier ranks.Waiting all) c2 ≡ min n (c0 + c1 + c2) = ap (λ (k : ℕ). min n (c0 + c1) + min (n - k) c2) h.waiting ∙ fill n (c0 + c1) c2 in
    let d : min n (c0 + c1 + c2) + min (n - earlier ranks.AboveWaiting all) c3 ≡ min n (c0 + c1 + c2 + c3) = ap (λ (k : ℕ). min n (c0 + c1 + c2) + min (n - k) c3) h.above_waiting ∙ fill n (c0 + c1 + c2) c3 in
    let e : min n (c0 + c1 + c2 + c3) + min (n - earlier ranks.Finished all) c4 ≡ min n (c0 + c1 + c2 + c3 + c4) = ap (λ (k : ℕ). min n (c0 + c1 + c2 + c3) + min (n - k) c4) h.finished ∙ fill n (c0 + c1 + c2 + c3) c4 in
    let whole : min n (length all) ≡ min n (c0 + c1 + c2 + c3 + c4) = ap (min n) h.whole in
    omega (arith, a, b, c, d, e, whole)

length-ranks_of : (rows : List PathRow) → length (ranks_of rows) ≡ length rows
length-ranks_of [] = refl
length-ranks_of (row ∷ rows) = ap suc (length-ranks_of rows)

-- of n rows or more they are n, and else all
pub length-below : {X : Type 0} (n : ℕ) (rows : List PathRow) (xs : List X) → length xs ≡ length rows → length (below n (places rows) xs) ≡ min n (length rows)
length-below n rows xs e =
    let all = ranks_of rows in
    let size = length-ranks_of rows in
    ap length (sym (chosen_are n rows xs))
    ∙ length-chosen (all_reserved (quotas_of n) all) all xs (e ∙ sym size)
    ∙ ap (λ (q : Quotas). room q all) (all_reserved_are (quotas_of n) all)
    ∙ room_for_all n all
    ∙ ap (min n) size

-- ---- all are chosen if they fit

length-places_from : (all above others : List Rank) → length (places_from all above others) ≡ length others
length-places_from all above [] = refl
length-places_from all above (rank ∷ others) = ap suc (length-places_from all (above ++ rank ∷ []) others)

pub zip_whole : {X : Type 0} (ns : List ℕ) (xs : List X) → length ns ≡ length xs → map (λ it. it.1) (zip ns xs) ≡ xs
zip_whole [] [] e = refl
zip_whole [] (x ∷ xs) e = cc
zip_whole (n ∷ ns) [] e = cc
zip_whole {X = X} (n ∷ ns) (x ∷ xs) e = ap (λ (ys : List X). x ∷ ys) (zip_whole ns xs (omega (arith, e)))

filter_few : {X : Type 0} (p : X → Bool) (xs : List X) → length (filter p xs) ≤ length xs
filter_few p xs = subst (λ (n : ℕ). n ≤ length xs) (sym (length-filter p xs)) (count_by-le-length p xs)

filter_by : {X : Type 0} (p : X → Bool) (x : X) (xs : List X) (test : Bool) → (length (filter p xs) ≡ length xs → filter p xs ≡ xs)
    → length (cond test (x ∷ filter p xs) (filter p xs)) ≡ length (x ∷ xs) → cond test (x ∷ filter p xs) (filter p xs) ≡ x ∷ xs
filter_by {X = X} p x xs true h e = ap (λ (ys : List X). x ∷ ys) (h (omega (arith, e)))
filter_by p x xs false h e = let few = filter_few p xs in absurd (omega (arith, e, few))

filter_whole : {X : Type 0} (p : X → Bool) (xs : List X) → length (filter p xs) ≡ length xs → filter p xs ≡ xs
filter_whole p [] e = refl
filter_whole p (x ∷ xs) e = filter_by p x xs (p x) (filter_whole p xs) e

pub below_all : {X : Type 0} (n : ℕ) (rows : List PathRow) (xs : List X) → length xs ≡ length rows → length rows ≤ n → below n (places rows) xs ≡ xs
below_all {X = X} n rows xs e i =
    let ns = places rows in
    let test : ℕ × X → Bool = λ it. nat_lt it.0 n in
    let sizes : length ns ≡ length xs = length-places_from (ranks_of rows) [] (ranks_of rows) ∙ length-ranks_of rows ∙ sym e in
    let whole : map (λ it. it.1) (zip ns xs) ≡ xs = zip_whole ns xs sizes in
    let zipped : length (zip ns xs) ≡ length xs = sym (length-map (zip ns xs) (λ it. it.1)) ∙ ap length whole in
    let kept : length (filter test (zip ns xs)) ≡ min n (length rows) = sym (length-map (filter test (zip ns xs)) (λ it. it.1)) ∙ length-below n rows xs e in
    let all : length (filter test (zip ns xs)) ≡ length (zip ns xs) = omega (arith, kept, zipped, e, i) in
    ap (map (λ it. it.1)) (filter_whole test (zip ns xs) all) ∙ whole
