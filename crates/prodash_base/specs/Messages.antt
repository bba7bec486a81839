-- Messages, and the tests of equal ones, which are true exactly of equal values.
use Rattle.std.specs.Prelude.{ℕ, List, Bool, true, false, ◌&&◌, nat_eq}
use Rattle.std.specs.Cmp.Lexicographic.{pointwise}
use Rattle.prodash_base.specs.Numbers.{same_numbers}
use Rattle.prodash_base.specs.declared.messages.MessageLevel.{MessageLevel}
use Rattle.prodash_base.specs.declared.messages.MessageLevel.TheVariants.{Info, Failure, Success}
use Rattle.prodash_base.specs.declared.messages.Message.{Message}

-- the message of a task with this name
abbrev pub message_of : ℕ → MessageLevel → List ℕ → List ℕ → Message
message_of time level origin message =
    record { time = time; level = level; origin = origin; message = message }

-- the test of equal severities
abbrev pub same_level : MessageLevel → MessageLevel → Bool
same_level Info Info = true
same_level Failure Failure = true
same_level Success Success = true
same_level _ _ = false

-- the test of equal messages
abbrev pub same_message : Message → Message → Bool
same_message m n =
    nat_eq m.time n.time
    && (same_level m.level n.level && (same_numbers m.origin n.origin && same_numbers m.message n.message))

-- the test of equal lists of messages
abbrev pub same_messages : List Message → List Message → Bool
same_messages = pointwise same_message
