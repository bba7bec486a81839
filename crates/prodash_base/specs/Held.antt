-- What a tracker holds of a path in memory: enough for its next rates. The latest is first.
use Rattle.std.specs.Prelude.{ℕ, ◌+◌, ◌<◌, ◌≤◌, ◌-◌, ◌^◌, nat_lt, List, [], ◌∷◌, Option, Some, None, if◌then◌else◌, min}
use Rattle.std.specs.List.{All}
use Rattle.std.specs.FinMap as finite
use Rattle.prodash_base.specs.Path.{path_cmp}
use Rattle.prodash_base.specs.Samples.{one_second, duration, samples_of, after_mark, rate}
use Rattle.prodash_base.specs.declared.throughput.sample.Observation.{Observation}
use Rattle.prodash_base.specs.declared.throughput.sample.Sample.{Sample}

-- the samples with a rise added to that of the latest, at most 2^128 - 1
abbrev pub add_change : ℕ → List Sample → List Sample
add_change rise [] = []
add_change rise (s ∷ older) = record s { change = min (s.change + rise) (2 ^ 128 - 1) } ∷ older

-- the samples with one more; one that takes no time is added to the sample before it, if any
abbrev pub with_sample : Sample → List Sample → List Sample
with_sample s older = if nat_lt 0 s.elapsed then s ∷ older else add_change s.change older

-- the samples, each that takes no time added to the sample before it
abbrev pub joined : List Sample → List Sample
joined [] = []
joined (s ∷ older) = with_sample s (joined older)

-- the latest value, the samples after the last mark, and the rate at the last mark
pub record Summary : Type 0 where
  pub value : ℕ
  pub recent : List Sample
  pub rate : Option ℕ

-- from a path to what is held of it
abbrev pub Summaries : Type 0
Summaries = finite.FinMap path_cmp Summary

-- what is held after an observation that follows these
abbrev pub held_after : Observation → List Observation → Summary
held_after o older = record {
  value = o.value;
  recent = joined (after_mark (samples_of (o ∷ older)));
  rate = rate (o ∷ older);
}

-- the samples in what is held of a path, if anything is
abbrev pub recent_in : Option Summary → List Sample
recent_in None = []
recent_in (Some s) = s.recent

-- few samples: each takes time, and together they take at most a second
pub record AreFew (samples : List Sample) : Type 0 where
  pub short : duration samples ≤ one_second
  pub each : All (λ s. 0 < s.elapsed) samples
