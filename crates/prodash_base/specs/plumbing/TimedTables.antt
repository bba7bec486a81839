-- A sorted list of what is known of tasks.
use Rattle.std.specs.Prelude.{◌≡◌, ℕ, T, ◌<◌, ◌≤◌, Bool, true, [], ◌∷◌, length, slice_index_or}
use Rattle.std.specs.Ordering.{is_lt}
use Rattle.std.specs.List.Sorted.{IsPartitionPoint}
use Rattle.std.specs.Option.{option_map}
use Rattle.std.specs.declared.cmp.Ordering.TheVariants.{Less, Greater}
use Rattle.std.specs.FinMap as finite
use Rattle.prodash_base.specs.Path.{Path, path_cmp}
use Rattle.prodash_base.specs.Rows.{progress_of}
use Rattle.prodash_base.specs.Timers.{Timing, Timings, HoldsMarks, with_timing}
use Rattle.prodash_base.specs.declared.progress.Row.{Row}

-- the paths strictly ascend
abbrev pub AreSorted : Timings → Type 0
AreSorted timings = T (finite.is_sorted path_cmp timings)

-- is a path greater than the last one, if there is one?
abbrev pub is_past_last : Timings → Path → Bool
is_past_last [] path = true
is_past_last (entry ∷ []) path = is_lt (path_cmp entry.0 path)
is_past_last (entry ∷ other ∷ others) path = is_past_last (other ∷ others) path

-- what a timer holds: the paths strictly ascend, and of each task sixteen marks are held
pub record IsTable (timings : Timings) : Type 0 where
  pub sorted : AreSorted timings
  pub marks : HoldsMarks timings

-- the path is at this index
pub record IsAt (timings : Timings) (path : Path) (index : ℕ) : Type 0 where
  pub within : index < length timings
  pub path_is : (d : Path × Timing) → (slice_index_or timings index d).0 ≡ path

-- a new path belongs at this index
pub record IsNewAt (timings : Timings) (path : Path) (index : ℕ) : Type 0 where
  pub within : index ≤ length timings
  pub place : IsPartitionPoint (λ e. path_cmp e.0 path ≡ Less) (λ e. path_cmp e.0 path ≡ Greater) timings index

-- what is known of the task of a row after a tick is added, by what was known before, if the row has progress
abbrev pub AddsRow : Timings → ℕ → Row → Timings → Timings → Type 0
AddsRow before now row old new = new ≡ with_timing before now old row.key (option_map progress_of row.progress)
