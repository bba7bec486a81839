-- The code of all observations of each path.
use Rattle.std.specs.Prelude.{ℕ, refl}
use Rattle.std.specs.FinMap as finite
use Rattle.std.specs.Coded.{Coded, code_by, coded×, coded_ℕ, coded_list}
use Rattle.prodash_base.specs.Trackers.{Observations}
use Rattle.prodash_base.specs.declared.throughput.sample.Observation.{Observation}

abbrev coded_observation : Coded Observation
coded_observation =
    code_by (ℕ × ℕ) (coded× coded_ℕ coded_ℕ) (λ o. (o.elapsed, o.value)) (λ p. record { elapsed = p.0; value = p.1 }) (λ _. refl)

abbrev pub coded_observations : Coded Observations
coded_observations = finite.code (coded_list coded_ℕ) (coded_list coded_observation)
