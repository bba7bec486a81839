-- The samples of a key that are kept, and what is kept beside them.
use Rattle.std.specs.Prelude.{◌≡◌, ℕ, ◌+◌, ◌-◌, ◌≤◌, List, [], ◌∷◌, length, take, drop, Option, None, nat_lt, if◌then◌else◌}
use Rattle.std.specs.Option.{ForSome}
use Rattle.prodash_base.specs.Samples.{one_second, duration}
use Rattle.prodash_base.specs.Held.{Summary, add_change}
use Rattle.prodash_base.specs.declared.throughput.sample.Observation.{Observation}
use Rattle.prodash_base.specs.declared.throughput.sample.Sample.{Sample}
use Rattle.prodash_base.specs.declared.throughput.totals.Totals.{Totals}

-- the samples after the last mark
abbrev pub recent_of : Totals → List Sample → List Sample
recent_of t samples = take (length samples - t.older) samples

-- these totals are those of these samples
pub record Sums (t : Totals) (samples : List Sample) : Type 0 where
  pub older : t.older ≤ length samples
  pub taken : t.taken ≡ duration (recent_of t samples)
  pub short : t.taken ≤ one_second

-- the summary that these totals and samples give
abbrev pub summary_at : Totals → List Sample → Summary
summary_at t samples = record { value = t.value; recent = recent_of t samples; rate = t.rate }

-- the sample of one more observation
abbrev pub sample_after : Totals → Observation → Sample
sample_after t o = record { elapsed = o.elapsed; change = o.value - t.value }

-- the totals after one more observation that is no mark
abbrev pub totals_after : Totals → Observation → Totals
totals_after t o = record t { value = o.value; taken = o.elapsed + t.taken }

-- the samples with one more that is no mark, of which the `older` earliest are up to the last mark
abbrev pub with_latest : ℕ → Sample → List Sample → List Sample
with_latest older s samples =
    if nat_lt 0 s.elapsed then s ∷ samples
    else if nat_lt older (length samples) then add_change s.change samples
    else samples

-- the `count` earliest samples
abbrev pub earliest : ℕ → List Sample → List Sample
earliest count samples = drop (length samples - count) samples

-- the change of the latest sample
abbrev pub latest_change : List Sample → ℕ
latest_change [] = 0
latest_change (s ∷ older) = s.change

-- the samples with this change of the latest
abbrev pub with_change : ℕ → List Sample → List Sample
with_change change [] = []
with_change change (s ∷ older) = record s { change = change } ∷ older

-- the `count` earliest samples, as they were when the latest of them had this change
abbrev pub settled_of : ℕ → ℕ → List Sample → List Sample
settled_of count change samples = with_change change (earliest count samples)

-- there were so many samples, the latest with this change, when the latest frame was kept, and these were their totals
pub record SumsBefore (count change : ℕ) (before : Option Totals) (samples : List Sample) : Type 0 where
  pub within : count ≤ length samples
  pub sums : ForSome before (λ t. Sums t (settled_of count change samples))

-- none but those samples are up to the last mark; all of them were after it then, and there were none if no frame was kept
pub record Settles (older count : ℕ) (before : Option Totals) : Type 0 where
  pub within : older ≤ count
  pub none : before ≡ None → count ≡ 0
  pub all : ForSome before (λ t. t.older ≡ 0)
