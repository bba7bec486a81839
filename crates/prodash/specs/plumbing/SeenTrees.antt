-- What a frame sees of recorded trees, with the calls that led to them.
use Rattle.std.specs.Prelude.{ℕ, List, Option}
use Rattle.prodash_line.specs.Renderer.{Seen}
use Rattle.prodash_core.specs.declared.tree.event.Event.{Event}
use Rattle.prodash_core.specs.declared.tree.event.Reply.{Reply}
use Rattle.prodash.specs.Views.{OfViewTurn, Reads, Sees, Viewed}

-- This is what a frame sees of the tree, and these calls led to it.
abbrev pub IsSeen : ℕ → Option ℕ → Viewed → Seen × List (Event × Reply) → Type 0
IsSeen capacity previous tree seen = Sees capacity previous seen.1 seen.0 tree

-- One turn found a recorded tree of which this is seen.
abbrev pub ReadsSeen : OfViewTurn → OfViewTurn → ℕ → Option ℕ → Seen × List (Event × Reply) → Type 0
ReadsSeen found left capacity previous seen =
    Reads found left (λ tree. IsSeen capacity previous tree seen)
