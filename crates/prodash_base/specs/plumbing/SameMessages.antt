-- The tests of equality of messages and their levels are true exactly of equal values.
use Rattle.std.proofs.Common.{◌≡◌, true, refl}
use Rattle.prodash_base.specs.Messages.{same_level, same_message, same_messages}
use Rattle.prodash_base.specs.declared.messages.MessageLevel.{MessageLevel}
use Rattle.prodash_base.specs.declared.messages.MessageLevel.TheVariants.{Info, Failure, Success}
use Rattle.prodash_base.specs.plumbing.EqualityTests.{IsEqualityTest, by_cases, numbers, texts, lists, pairs, by_parts}

level_sound : (l k : MessageLevel) → same_level l k ≡ true → l ≡ k
level_sound Info Info h = refl
level_sound Failure Failure h = refl
level_sound Success Success h = refl
level_sound _ _ h = cc

level_itself : (l : MessageLevel) → same_level l l ≡ true
level_itself Info = refl
level_itself Failure = refl
level_itself Success = refl

levels : IsEqualityTest same_level
levels = by_cases level_sound level_itself

message : IsEqualityTest same_message
message =
    by_parts (λ m. (m.time, (m.level, (m.origin, m.message)))) (λ q. record { time = q.0; level = q.1.0; origin = q.1.1.0; message = q.1.1.1 })
    (λ _. refl) (pairs numbers (pairs levels (pairs texts texts)))

pub messages : IsEqualityTest same_messages
messages = lists message
