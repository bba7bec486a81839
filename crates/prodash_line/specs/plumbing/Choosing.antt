-- The rows that are chosen one after another by how many more of each rank are drawn.
use Rattle.std.specs.Prelude.{ℕ, ◌-◌, List, [], ◌∷◌, nat_lt, Bool, if◌then◌else◌}
use Rattle.prodash_line.specs.declared.render.line.draw.rank.Rank.{Rank}
use Rattle.prodash_line.specs.declared.render.line.draw.rank.Rank.TheVariants as ranks
use Rattle.prodash_line.specs.declared.render.line.draw.rank.Quotas.{Quotas}
use Rattle.prodash_line.specs.RowRanks.{is_before, same_rank}

-- quotas of so many rows of each rank
abbrev pub quotas_of : ℕ → Quotas
quotas_of n = record { running = n; above_running = n; waiting = n; above_waiting = n; finished = n }

-- the quota of a rank
abbrev pub quota : Quotas → Rank → ℕ
quota q ranks.Running = q.running
quota q ranks.AboveRunning = q.above_running
quota q ranks.Waiting = q.waiting
quota q ranks.AboveWaiting = q.above_waiting
quota q ranks.Finished = q.finished

-- a quota from which a row is taken, or is not
abbrev pub lessened : Bool → ℕ → ℕ
lessened is_taken n = if is_taken then n - 1 else n

-- the quotas after a row of this rank is taken from those of all later ranks
abbrev pub reserved : Quotas → Rank → Quotas
reserved q rank = record {
  running = q.running;
  above_running = lessened (is_before rank ranks.AboveRunning) q.above_running;
  waiting = lessened (is_before rank ranks.Waiting) q.waiting;
  above_waiting = lessened (is_before rank ranks.AboveWaiting) q.above_waiting;
  finished = lessened (is_before rank ranks.Finished) q.finished;
}

-- the quotas after a row is taken from that of its rank
abbrev pub taken : Quotas → Rank → Quotas
taken q rank = record {
  running = lessened (same_rank rank ranks.Running) q.running;
  above_running = lessened (same_rank rank ranks.AboveRunning) q.above_running;
  waiting = lessened (same_rank rank ranks.Waiting) q.waiting;
  above_waiting = lessened (same_rank rank ranks.AboveWaiting) q.above_waiting;
  finished = lessened (same_rank rank ranks.Finished) q.finished;
}

-- the quotas after rows of these ranks are taken from those of later ranks
abbrev pub all_reserved : Quotas → List Rank → Quotas
all_reserved q [] = q
all_reserved q (rank ∷ others) = all_reserved (reserved q rank) others

-- those of rows with these ranks for which there is room by the quotas
abbrev pub chosen : {X : Type 0} → Quotas → List Rank → List X → List X
chosen q [] rows = []
chosen q (rank ∷ others) [] = []
chosen q (rank ∷ others) (row ∷ rows) =
    if nat_lt 0 (quota q rank) then row ∷ chosen (taken q rank) others rows else chosen (taken q rank) others rows
