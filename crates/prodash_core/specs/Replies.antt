-- Replies that own memory.
use Rattle.std.specs.Prelude.{Bool, true, false, Some}
use Rattle.prodash_core.specs.declared.tree.event.Reply.{Reply}
use Rattle.prodash_core.specs.declared.tree.event.Reply.TheVariants.{Name, Rows, Messages, New}

-- does the reply own memory, which a copy of it needs too?
abbrev pub owns_memory : Reply → Bool
owns_memory (Name (Some name)) = true
owns_memory (Rows rows) = true
owns_memory (Messages messages) = true
owns_memory (New messages pushed) = true
owns_memory _ = false
