-- A list of what is kept of each key, as the map that it is seen as.
use Rattle.std.specs.Prelude.{◌≡◌, ℕ, T, ◌<◌, ◌≤◌, List, [], ◌∷◌, Bool, false, map, length, true, Option, Some, None, IfSome, is_some, slice_set, slice_index_or}
use Rattle.std.specs.List.{AllAdjacentBelow, filter}
use Rattle.std.specs.List.Sorted.{IsPartitionPoint}
use Rattle.std.specs.Option.{option_map}
use Rattle.std.specs.Ordering.{is_le}
use Rattle.std.specs.declared.cmp.Ordering.TheVariants.{Less, Greater}
use Rattle.std.specs.FinMap as finite
use Rattle.prodash_base.specs.Path.{Path, path_cmp}
use Rattle.prodash_base.specs.Held.{Summary, Summaries, recent_in}
use Rattle.prodash_base.specs.plumbing.Summaries.{Summarize, summary, next_summary, summary_after}
use Rattle.prodash_base.specs.Trackers.{Observations, observations_of}
use Rattle.prodash_base.specs.declared.progress.Row.{Row}
use Rattle.prodash_base.specs.declared.throughput.kept.Kept.{Kept}
use Rattle.prodash_base.specs.declared.throughput.sample.Observation.{Observation}
use Rattle.prodash_base.specs.declared.throughput.sample.Sample.{Sample}
use Rattle.prodash_base.specs.plumbing.KeptSamples.{summary_at, settled_of}

-- what is kept of a key
abbrev pub summary_of : Kept → Summary
summary_of k = summary_at k.latest k.samples.items

abbrev pub entry_of : Kept → Path × Summary
entry_of k = (k.key, summary_of k)

-- what is kept of all keys
abbrev pub summaries_of : List Kept → Summaries
summaries_of kept = finite.from_entries (map entry_of kept)

-- what is kept of a key after one more observation
abbrev pub summary_with : List Kept → Path → Observation → Summary
summary_with kept key o = summary_after (finite.get (summaries_of kept) key) o

-- all that is in memory of a key
abbrev pub stored_of : Kept → Summary
stored_of k = record { value = k.latest.value; recent = k.samples.items; rate = k.latest.rate }

abbrev pub stored_entry : Kept → Path × Summary
stored_entry k = (k.key, stored_of k)

-- all that is in memory of all keys
abbrev pub stored : List Kept → Summaries
stored kept = finite.from_entries (map stored_entry kept)

-- what is kept of all keys after one more observation of a key
abbrev pub summaries_with : List Kept → Path → Observation → Summaries
summaries_with kept key o = finite.insert (summaries_of kept) key (summary_with kept key o)

-- the keys strictly ascend
abbrev pub AreSorted : List Kept → Type 0
AreSorted kept = T (finite.is_sorted path_cmp (map entry_of kept))

-- a sorted list of what is kept of these observations
pub record Keeps (m : Observations) (kept : List Kept) : Type 0 where
  pub sorted : AreSorted kept
  pub summaries : Summarize m (summaries_of kept)

-- what is kept of the observations that were kept last, if there were any
abbrev pub before_of : Kept → Option Summary
before_of k =
    option_map (λ t. summary_at t (settled_of k.settled k.settled_change k.samples.items)) k.before

abbrev pub with_entry : Path → Option Summary → List (Path × Summary) → List (Path × Summary)
with_entry key None entries = entries
with_entry key (Some s) entries = (key, s) ∷ entries

-- the same of all keys
abbrev pub entries_before : List Kept → List (Path × Summary)
entries_before [] = []
entries_before (k ∷ kept) = with_entry k.key (before_of k) (entries_before kept)

-- the samples that were kept of a key when a frame was last kept
abbrev pub recent_before : List Kept → Path → List Sample
recent_before kept key = recent_in (finite.find path_cmp key (entries_before kept))

-- a sorted list of what is kept of these observations, of which nothing can be taken back
pub record KeepsAll (m : Observations) (kept : List Kept) : Type 0 where
  pub kept_now : Keeps m kept
  pub none_before : entries_before kept ≡ []

-- what is kept of these observations, and of those that were kept last, which are the same if none is pending
pub record KeepsBoth (before pending : Observations) (is_pending : Bool) (kept : List Kept) : Type 0 where
  pub pending_kept : Keeps pending kept
  pub before_kept : (path : Path) → finite.find path_cmp path (entries_before kept) ≡ summary (observations_of before path)
  pub settled : is_pending ≡ false → pending ≡ before

-- the observations of a key are kept
pub record IsKept (old new : Kept) : Type 0 where
  pub key : new.key ≡ old.key
  pub summary : summary_of new ≡ summary_of old
  pub before : before_of new ≡ Some (summary_of old)

-- the observations of a key are taken back, if there were others before
pub record IsTakenBack (old new : Kept) : Type 0 where
  pub key : new.key ≡ old.key
  pub summary : IfSome (before_of old) (λ s. summary_of new ≡ s)
  pub before : before_of new ≡ before_of old

-- the same is kept of both
pub record IsCopy (kept copy : Kept) : Type 0 where
  pub entry : entry_of copy ≡ entry_of kept
  pub before : before_of copy ≡ before_of kept

-- the key is at this index
pub record IsAt (kept : List Kept) (key : Path) (index : ℕ) : Type 0 where
  pub within : index < length kept
  pub key_is : (d : Kept) → (slice_index_or kept index d).key ≡ key

-- a new key belongs at this index
pub record IsNewAt (kept : List Kept) (key : Path) (index : ℕ) : Type 0 where
  pub within : index ≤ length kept
  pub place : IsPartitionPoint (λ k. path_cmp k.key key ≡ Less) (λ k. path_cmp k.key key ≡ Greater) kept index

-- the list changes at an index alone, where the key stays, and what was kept before
pub record ChangesAt (index : ℕ) (old new : List Kept) : Type 0 where
  pub set : (d : Kept) → new ≡ slice_set old index (slice_index_or new index d)
  pub key : (d : Kept) → (slice_index_or new index d).key ≡ (slice_index_or old index d).key
  pub before : (d : Kept) → before_of (slice_index_or new index d) ≡ before_of (slice_index_or old index d)

-- the summary of the key at an index after one more observation
abbrev pub next_at : ℕ → List Kept → Observation → Kept → Summary
next_at index kept o d = next_summary (summary_of (slice_index_or kept index d)) o

-- the rate of the key at an index after one more observation
abbrev pub IsRateAt : ℕ → List Kept → Observation → Option ℕ → Type 0
IsRateAt index kept o rate = (d : Kept) → rate ≡ (next_at index kept o d).rate

-- one more observation is added to the key at an index
abbrev pub AddsAt : ℕ → Observation → List Kept → List Kept → Type 0
AddsAt index o old new = (d : Kept) → summary_of (slice_index_or new index d) ≡ next_at index old o d

-- the summary of the key at an index stays
abbrev pub KeepsSummaryAt : ℕ → List Kept → List Kept → Type 0
KeepsSummaryAt index old new =
    (d : Kept) → summary_of (slice_index_or new index d) ≡ summary_of (slice_index_or old index d)

-- those keys of which observations were kept before
abbrev pub kept_before : List Kept → List Kept
kept_before = filter (λ k. is_some (before_of k))

-- no row has a key that is less than that of the row before it
abbrev pub NeverDescends : List Row → Type 0
NeverDescends rows =
    AllAdjacentBelow (λ r s. is_le (path_cmp r.key s.key) ≡ true) rows (length rows)
