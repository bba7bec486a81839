-- The observations after one more, if there is one.
use Rattle.std.specs.Prelude.{Some}
use Rattle.prodash_base.specs.Trackers.{Observations, with_observation}
use Rattle.prodash_base.specs.declared.throughput.history.Change.{Change}
use Rattle.prodash_base.specs.declared.throughput.history.Change.TheVariants as changes

abbrev pub changed_by : Change → Observations → Observations
changed_by changes.Nothing m = m
changed_by (changes.Observed path o) m = with_observation m path (Some o)
