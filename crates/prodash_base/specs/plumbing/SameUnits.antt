-- The tests of equality of units and their parts are true exactly of equal values.
use Rattle.std.proofs.Common.{rules, ◌≡◌, true, refl}
use Rattle.std.specs.Bool.{beq}
use Rattle.prodash_base.specs.Kinds.{Quantity, same_scaling, same_scalings, same_quantity}
use Rattle.prodash_base.specs.Displays.{same_location}
use Rattle.prodash_base.specs.Units.{same_mode, same_measure}
use Rattle.prodash_base.specs.plumbing.EqualityTests.{IsEqualityTest, sound, itself, by_cases, numbers, texts, lists, options, pairs, by_parts}

scalings : IsEqualityTest same_scaling
scalings =
    by_parts (λ s. (s.factor, (s.decimals, s.suffix)))
    (λ q. record { factor = q.0; decimals = q.1.0; suffix = q.1.1 }) (λ _. refl)
    (pairs numbers (pairs numbers texts))

all_scalings : IsEqualityTest same_scalings
all_scalings =
    by_parts (λ s. (s.separator, s.scales)) (λ q. record { separator = q.0; scales = q.1 })
    (λ _. refl) (pairs texts (lists scalings))

quantity_sound : (a b : Quantity) → same_quantity a b ≡ true → a ≡ b
quantity_sound a b h = search (rules, h, sound texts, sound numbers, sound all_scalings)

quantity_itself : (a : Quantity) → same_quantity a a ≡ true
quantity_itself a = search (rules, itself texts, itself numbers, itself all_scalings)

quantities : IsEqualityTest same_quantity
quantities = by_cases quantity_sound quantity_itself

bools : IsEqualityTest beq
bools = by_cases (λ a b h. search (rules, h)) (λ a. search rules)

locations : IsEqualityTest same_location
locations = by_cases (λ a b h. search (rules, h)) (λ a. search rules)

modes : IsEqualityTest same_mode
modes =
    by_parts (λ m. (m.location, (m.percentage, m.throughput)))
    (λ q. record { location = q.0; percentage = q.1.0; throughput = q.1.1 }) (λ _. refl)
    (pairs locations (pairs bools bools))

pub measures : IsEqualityTest same_measure
measures =
    by_parts (λ u. (u.quantity, u.mode)) (λ q. record { quantity = q.0; mode = q.1 }) (λ _. refl)
    (pairs quantities (options modes))
