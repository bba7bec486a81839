-- The rate on worked observations, by computation alone.
use Rattle.std.proofs.Common.{◌≡◌, ℕ, List, [], ◌∷◌, Option, Some, None, refl}
use Rattle.prodash_base.specs.Samples.{rate}
use Rattle.prodash_base.specs.declared.throughput.sample.Observation.{Observation}

observation : ℕ → ℕ → Observation
observation elapsed value = record { elapsed = elapsed; value = value }

-- observations at these values, the latest first, each `elapsed` nanoseconds after the previous
observations : ℕ → List ℕ → List Observation
observations elapsed [] = []
observations elapsed (value ∷ older) = observation elapsed value ∷ observations elapsed older

slow : List ℕ → Option ℕ
slow values = rate (observations 400000000 values)

-- nothing before the second mark
no_observation : rate [] ≡ None
no_observation = refl

one_observation : slow (10 ∷ []) ≡ None
unfolding slow observations observation
one_observation = refl

two_observations : slow (20 ∷ 10 ∷ []) ≡ None
unfolding slow observations observation
two_observations = refl

three_observations : slow (30 ∷ 20 ∷ 10 ∷ []) ≡ None
unfolding slow observations observation
three_observations = refl

-- three samples, 40 in 1.2 seconds
second_mark : slow (50 ∷ 30 ∷ 20 ∷ 10 ∷ []) ≡ Some 33
unfolding slow observations observation
second_mark = refl

-- the rate stays until the next mark
after_second_mark : slow (50 ∷ 50 ∷ 30 ∷ 20 ∷ 10 ∷ []) ≡ Some 33
unfolding slow observations observation
after_second_mark = refl

still_after : slow (50 ∷ 50 ∷ 50 ∷ 30 ∷ 20 ∷ 10 ∷ []) ≡ Some 33
unfolding slow observations observation
still_after = refl

third_mark : slow (50 ∷ 50 ∷ 50 ∷ 50 ∷ 30 ∷ 20 ∷ 10 ∷ []) ≡ Some 0
unfolding slow observations observation
third_mark = refl

-- a first observation of 500 nanoseconds
short_observation : rate (observation 500 5 ∷ []) ≡ None
unfolding observation
short_observation = refl

-- the greatest value, a nanosecond over a second after 0
greatest : rate (observation 1000000001 18446744073709551615 ∷ observation 400000000 0 ∷ []) ≡ Some 18446744055262807559
unfolding observation
greatest = refl

-- a fall counts nothing, and the rate stops at the greatest number
up_and_down : slow (18446744073709551615 ∷ 0 ∷ 18446744073709551615 ∷ 0 ∷ []) ≡ Some 18446744073709551615
unfolding slow observations observation
up_and_down = refl

before_it : slow (0 ∷ 18446744073709551615 ∷ 0 ∷ []) ≡ None
unfolding slow observations observation
before_it = refl
