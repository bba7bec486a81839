-- What a tracker keeps of a path's observations: enough for its next rates.
use Rattle.std.specs.Prelude.{◌≡◌, ◌-◌, List, [], ◌∷◌, Option, Some, None, if◌then◌else◌, nat_lt}
use Rattle.std.specs.FinMap as finite
use Rattle.prodash_base.specs.Path.{Path}
use Rattle.prodash_base.specs.Samples.{one_second, duration, rate_over}
use Rattle.prodash_base.specs.Held.{Summary, Summaries, held_after, with_sample}
use Rattle.prodash_base.specs.Trackers.{Observations, observations_of}
use Rattle.prodash_base.specs.declared.throughput.sample.Observation.{Observation}
use Rattle.prodash_base.specs.declared.throughput.sample.Sample.{Sample}

-- what is kept of these observations, if there are any
abbrev pub summary : List Observation → Option Summary
summary [] = None
summary (o ∷ older) = Some (held_after o older)

-- what is kept after a first observation
abbrev pub first_summary : Observation → Summary
first_summary o = record { value = o.value; recent = []; rate = None }

-- the sample of one more observation
abbrev pub next_sample : Summary → Observation → Sample
next_sample s o = record { elapsed = o.elapsed; change = o.value - s.value }

-- what is kept after one more observation
abbrev pub next_summary : Summary → Observation → Summary
next_summary s o =
    if nat_lt one_second (duration (next_sample s o ∷ s.recent))
    then record { value = o.value; recent = []; rate = Some (rate_over (next_sample s o ∷ s.recent)) }
    else record { value = o.value; recent = with_sample (next_sample s o) s.recent; rate = s.rate }

-- what is kept after an observation
abbrev pub summary_after : Option Summary → Observation → Summary
summary_after None o = first_summary o
summary_after (Some s) o = next_summary s o

-- what is kept is that of the observations of each path
abbrev pub Summarize : Observations → Summaries → Type 0
Summarize m summaries = (path : Path) → finite.get summaries path ≡ summary (observations_of m path)
