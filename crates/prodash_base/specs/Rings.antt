-- Rings of messages: the latest of all messages that were ever pushed.
use Rattle.std.specs.Prelude.{ℕ, Bool, nat_eq, ◌+◌, ◌-◌, ◌^◌, List, [], ◌∷◌, ◌++◌, length, Option, Some, None}
pub use Rattle.circular_buffer.specs.Buffer.{keep_last}
use Rattle.prodash_base.specs.declared.messages.Message.{Message}

-- the greatest number of messages that a ring keeps, those it keeps, oldest first, and the count of all pushes
pub record Ring : Type 0 where
  pub capacity : ℕ
  pub messages : List Message
  pub pushed : ℕ

-- a ring before its first push
abbrev pub new_ring : ℕ → Ring
new_ring capacity = record { capacity = capacity; messages = []; pushed = 0 }

-- the test whether as many messages were pushed as a `u64` counts
abbrev pub is_push_limit_reached : Ring → Bool
is_push_limit_reached r = nat_eq r.pushed (2 ^ 64 - 1)

-- the ring after a push, which drops the oldest message if the ring is full
abbrev pub push : Ring → Message → Ring
push r m = record r { messages = keep_last r.capacity (r.messages ++ m ∷ []); pushed = r.pushed + 1 }

-- the messages of a ring after the first `seen` pushes, or all of them without that number
abbrev pub messages_since : Ring → Option ℕ → List Message
messages_since r None = r.messages
messages_since r (Some seen) = keep_last (r.pushed - seen) r.messages

-- the ring of these messages, which were pushed one after another
abbrev pub ring_of : ℕ → List Message → Ring
ring_of capacity all =
    record { capacity = capacity; messages = keep_last capacity all; pushed = length all }

-- the messages of a copy of that ring, by a state that has seen the first `seen` pushes
abbrev pub copied_since : ℕ → List Message → ℕ → List Message
copied_since capacity all seen = messages_since (ring_of capacity all) (Some seen)

-- the messages of a second copy, with the state of the first: `before` were pushed before the first,
-- and `after` between the two
abbrev pub copied_again : ℕ → List Message → List Message → List Message
copied_again capacity before after =
    messages_since (ring_of capacity (before ++ after)) (Some (ring_of capacity before).pushed)
