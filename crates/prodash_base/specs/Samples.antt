-- The throughput of a value that is observed from time to time. Every list here has the latest first.
use Rattle.std.specs.Prelude.{◌≡◌, ℕ, ◌+◌, ◌<◌, ◌≤◌, ◌++◌, length, take, drop, ◌-◌, ◌*◌, ◌/◌, ◌^◌, nat_lt, List, [], ◌∷◌, Option, Some, None, if◌then◌else◌, min}
use Rattle.prodash_base.specs.declared.throughput.sample.Observation.{Observation}
use Rattle.prodash_base.specs.declared.throughput.sample.Sample.{Sample}

-- the nanoseconds of a second
abbrev pub one_second : ℕ
one_second = 1000000000

-- the nanoseconds that samples take together
abbrev pub duration : List Sample → ℕ
duration [] = 0
duration (s ∷ older) = s.elapsed + duration older

-- the rise of the value in samples together
abbrev pub change : List Sample → ℕ
change [] = 0
change (s ∷ older) = s.change + change older

-- the rise since the previous observation, 0 if the value fell; the value itself if there is none
abbrev pub rise : ℕ → List Observation → ℕ
rise value [] = value
rise value (previous ∷ older) = value - previous.value

-- the sample of an observation that follows these
abbrev pub sample_of : Observation → List Observation → Sample
sample_of o older = record { elapsed = o.elapsed; change = rise o.value older }

-- the sample of each observation
abbrev pub samples_of : List Observation → List Sample
samples_of [] = []
samples_of (o ∷ older) = sample_of o older ∷ samples_of older

-- the samples after the last mark: the first sample is a mark, and so is each that takes more than a
-- second together with those after the previous mark
abbrev pub after_mark : List Sample → List Sample
after_mark [] = []
after_mark (s ∷ []) = []
after_mark (s ∷ older) =
    let recent = s ∷ after_mark older in if nat_lt one_second (duration recent) then [] else recent

-- the samples up to and with the last mark
abbrev pub to_mark : List Sample → List Sample
to_mark samples = drop (length (after_mark samples)) samples

-- the fewest of the latest samples that take more than `span` nanoseconds, or all if none do
abbrev pub latest_over : ℕ → List Sample → List Sample
latest_over span [] = []
latest_over span (s ∷ older) =
    if nat_lt span s.elapsed then s ∷ [] else s ∷ latest_over (span - s.elapsed) older

-- the rise in a second, rounded down, and at most 2^64 - 1
abbrev pub per_second : List Sample → ℕ
per_second samples = min (change samples * one_second / duration samples) (2 ^ 64 - 1)

-- the rate of samples that take more than a second: over the fewest of the latest that do
abbrev pub rate_over : List Sample → ℕ
rate_over samples = per_second (latest_over one_second samples)

-- the rate at a mark, of the samples up to and with it; none if it is the first sample
abbrev pub rate_at : List Sample → Option ℕ
rate_at [] = None
rate_at (s ∷ []) = None
rate_at (s ∷ older) = Some (rate_over (s ∷ older))

-- the rate at the last mark
abbrev pub rate : List Observation → Option ℕ
rate observations = rate_at (to_mark (samples_of observations))

-- `part` is the fewest of the latest samples that take more than `span` nanoseconds together
pub record IsShortestOver (span : ℕ) (samples : List Sample) (part : List Sample) : Type 0 where
  pub older : List Sample
  pub is_end : samples ≡ part ++ older
  pub over : span < duration part
  pub least : (n : ℕ) → n < length part → duration (take n part) ≤ span

-- samples that take more than a second have their rate over the fewest of the latest that do
abbrev pub IsRatedOverShortest : List Sample → Type 0
IsRatedOverShortest samples = one_second < duration samples
    → IsShortestOver one_second samples (latest_over one_second samples)
