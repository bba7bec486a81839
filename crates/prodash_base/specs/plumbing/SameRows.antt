-- The tests of equality of rows and their parts are true exactly of equal values.
use Rattle.std.proofs.Common.{◌≡◌, true, nat_eq, refl}
use Rattle.std.specs.Option.{option_eq}
use Rattle.prodash_base.specs.Numbers.{same_numbers}
use Rattle.prodash_base.specs.Rows.{Phase, Blocked, Halted, Running, same_phase, same_progress, same_entry, same_rows}
use Rattle.prodash_base.specs.plumbing.SameUnits.{measures}
use Rattle.prodash_base.specs.plumbing.EqualityTests.{IsEqualityTest, same_pair, sound, itself, by_cases, numbers, texts, lists, options, pairs, by_parts}

-- a reason, with the moment from which the task may go on
reasons : IsEqualityTest (same_pair same_numbers (option_eq nat_eq))
reasons = pairs texts (options numbers)

phase_sound : (p q : Phase) → same_phase p q ≡ true → p ≡ q
phase_sound (Blocked reason eta) (Blocked other when) h = λ i. let both = sound reasons (reason, eta) (other, when) h i in Blocked both.0 both.1
phase_sound (Halted reason eta) (Halted other when) h = λ i. let both = sound reasons (reason, eta) (other, when) h i in Halted both.0 both.1
phase_sound Running Running h = refl
phase_sound _ _ h = cc

phase_itself : (p : Phase) → same_phase p p ≡ true
phase_itself (Blocked reason eta) = itself reasons (reason, eta)
phase_itself (Halted reason eta) = itself reasons (reason, eta)
phase_itself Running = refl

pub phases : IsEqualityTest same_phase
phases = by_cases phase_sound phase_itself

progresses : IsEqualityTest same_progress
progresses =
    by_parts (λ p. (p.counter, (p.bound, (p.unit, p.phase))))
    (λ q. record { counter = q.0; bound = q.1.0; unit = q.1.1.0; phase = q.1.1.1 }) (λ _. refl)
    (pairs numbers (pairs (options numbers) (pairs (options measures) phases)))

entries : IsEqualityTest same_entry
entries =
    by_parts (λ e. (e.name, (e.id, e.progress))) (λ q. record { name = q.0; id = q.1.0; progress = q.1.1 }) (λ _. refl)
    (pairs texts (pairs texts (options progresses)))

pub rows : IsEqualityTest same_rows
rows = lists (pairs texts entries)
