-- The refusals of messages.
use Rattle.std.specs.Prelude.{◌≡◌, ℕ, List, Option}
use Rattle.prodash_base.specs.declared.messages.MessageLevel.{MessageLevel}
use Rattle.prodash_base.specs.declared.refusal.Refusal.{Refusal}
use Rattle.prodash_core.specs.Trees.{Tree}
use Rattle.prodash_core.specs.Refusals.{refusal_of}
use Rattle.prodash_core.specs.declared.tree.event.Event.TheVariants.{Message}

-- the refusal of a message of an item, whatever its moment, severity and text
abbrev pub IsRefusalOfMessage : Tree → ℕ → Option Refusal → Type 0
IsRefusalOfMessage t item refusal = (at : ℕ) (level : MessageLevel) (text : List ℕ)
    → refusal ≡ refusal_of t (Message item at level text)
