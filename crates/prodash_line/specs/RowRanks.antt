-- The ranks of rows, and which are drawn of more rows than fit: those before which the fewest come.
use Rattle.std.specs.Prelude.{ℕ, ◌+◌, List, [], ◌∷◌, ◌++◌, length, take_while, nat_eq, nat_lt, Bool, true, false, ◌&&◌, if◌then◌else◌, Option, Some, None}
use Rattle.std.specs.List.{list_any, filter}
use Rattle.prodash_base.specs.Rows.{Phase, Running, RowProgress, PathRow}
use Rattle.prodash_base.specs.Timers.{is_finished}
use Rattle.prodash_line.specs.declared.render.line.draw.rank.Standing.{Standing}
use Rattle.prodash_line.specs.declared.render.line.draw.rank.Standing.TheVariants as standings
use Rattle.prodash_line.specs.declared.render.line.draw.rank.Rank.{Rank}
use Rattle.prodash_line.specs.declared.render.line.draw.rank.Rank.TheVariants as ranks

-- neither blocked nor halted
abbrev pub is_running : Phase → Bool
is_running Running = true
is_running _ = false

-- what a task with this progress does: it has finished at its bound or past it, runs once it has made a step, and waits before that, and while
-- it is halted or blocked
abbrev pub standing_with : RowProgress → Standing
standing_with p =
    if is_finished p then standings.Finished
    else if nat_lt 0 p.counter && is_running p.phase then standings.Running
    else standings.Waiting

-- what the task of a row does; without progress it waits
abbrev pub standing_of : Option RowProgress → Standing
standing_of None = standings.Waiting
standing_of (Some p) = standing_with p

-- the test of equal standings
abbrev pub same_standing : Standing → Standing → Bool
same_standing standings.Running standings.Running = true
same_standing standings.Waiting standings.Waiting = true
same_standing standings.Finished standings.Finished = true
same_standing _ _ = false

-- does the task of a row have this standing?
abbrev pub has_standing : Standing → PathRow → Bool
has_standing standing row = same_standing (standing_of row.1.progress) standing

-- is another row deeper in the hierarchy?
abbrev pub is_deeper : PathRow → PathRow → Bool
is_deeper row other = nat_lt (length row.0) (length other.0)

-- the rows below a row, of those after it: up to the next that is no deeper
abbrev pub rows_below : PathRow → List PathRow → List PathRow
rows_below row after = take_while (is_deeper row) after

-- is a row with these after it above one of a task with this standing?
abbrev pub is_above : Standing → PathRow → List PathRow → Bool
is_above standing row after = list_any (has_standing standing) (rows_below row after)

-- the rank of a row with these after it: that of a task that runs, of a row above one, of a task that waits, of a row above one, or of a task
-- that has finished
abbrev pub rank_of : PathRow → List PathRow → Rank
rank_of row after =
    if has_standing standings.Running row then ranks.Running
    else if is_above standings.Running row after then ranks.AboveRunning
    else if has_standing standings.Waiting row then ranks.Waiting
    else if is_above standings.Waiting row after then ranks.AboveWaiting
    else ranks.Finished

-- the ranks of rows
abbrev pub ranks_of : List PathRow → List Rank
ranks_of [] = []
ranks_of (row ∷ rows) = rank_of row rows ∷ ranks_of rows

-- how many ranks come before a rank
abbrev pub order : Rank → ℕ
order ranks.Running = 0
order ranks.AboveRunning = 1
order ranks.Waiting = 2
order ranks.AboveWaiting = 3
order ranks.Finished = 4

-- does a rank come before another?
abbrev pub is_before : Rank → Rank → Bool
is_before rank other = nat_lt (order rank) (order other)

-- the test of equal ranks
abbrev pub same_rank : Rank → Rank → Bool
same_rank rank other = nat_eq (order rank) (order other)

-- how many of all rows come before one of this rank, which has those above it: all of earlier ranks, and those of its own rank above it
abbrev pub place : List Rank → List Rank → Rank → ℕ
place all above rank = length (filter (λ other. is_before other rank) all) + length (filter (λ other. same_rank other rank) above)

-- the places of rows of these ranks, of all rows and with those above them
abbrev pub places_from : List Rank → List Rank → List Rank → List ℕ
places_from all above [] = []
places_from all above (rank ∷ others) = place all above rank ∷ places_from all (above ++ rank ∷ []) others

-- the place of each row: how many come before it
abbrev pub places : List PathRow → List ℕ
places rows = let all = ranks_of rows in places_from all [] all
