-- Histories: the accepted calls of a recorded tree, in order, and a mark at their end.
use Rattle.std.specs.Prelude.{ℕ, ◌≡◌, ◌==◌, ◌<◌, Bool, true, false, List, [], ◌∷◌, ◌++◌, length, slice_get, Option, Some, None, MatchBool}
use mathlib.Core.List.{IsPrefix}
use Rattle.logbook.specs.Pages.{Cell, Step, View, Book, Named}
use Rattle.prodash_core.specs.declared.tree.event.Event.{Event}
use Rattle.prodash_core.specs.declared.tree.event.Reply.{Reply}
use Rattle.prodash_core.specs.Trees.{Tree}
use Rattle.prodash.specs.Journals.{Recorded}
use Rattle.prodash.specs.declared.tree.recorded.history.HistoryEntry.{HistoryEntry}
use Rattle.prodash.specs.declared.tree.recorded.history.HistoryEntry.TheVariants.{Call, End}

-- the history of a tree with this journal
abbrev pub history_of : List (Event × Reply) → List HistoryEntry
history_of [] = []
history_of (entry ∷ entries) = Call entry ∷ history_of entries

-- the history of a tree whose journal was taken out
abbrev pub ended : List (Event × Reply) → List HistoryEntry
ended entries = history_of entries ++ End ∷ []

-- the calls of a history, up to its end
abbrev pub calls_in : List HistoryEntry → List (Event × Reply)
calls_in [] = []
calls_in (Call entry ∷ history) = entry ∷ calls_in history
calls_in (End ∷ history) = []

-- a recorded tree of this capacity, to which the calls of a history led
abbrev pub recorded_after : ℕ → Tree → List HistoryEntry → Recorded
recorded_after capacity tree history =
    record { capacity = capacity; tree = tree; entries = calls_in history }

-- the entry with this number, counted from 0, is this call
abbrev pub HasCallAt : List HistoryEntry → ℕ → Event × Reply → Type 0
HasCallAt history number entry = slice_get history number ≡ Some (Call entry)

-- the number of the last entry, if there is one
abbrev pub last_number : List HistoryEntry → Option ℕ
last_number [] = None
last_number (entry ∷ history) = Some (length history)

-- the test whether a history has no end yet
abbrev pub is_open : List HistoryEntry → Bool
is_open [] = true
is_open (Call entry ∷ history) = is_open history
is_open (End ∷ history) = false

-- a history that has no end yet
abbrev pub IsOpen : List HistoryEntry → Type 0
IsOpen history = is_open history ≡ true

-- the test whether nothing follows the end
abbrev pub is_orderly : List HistoryEntry → Bool
is_orderly [] = true
is_orderly (Call entry ∷ history) = is_orderly history
is_orderly (End ∷ []) = true
is_orderly (End ∷ entry ∷ history) = false

-- a history in which nothing follows the end
abbrev pub IsOrderly : List HistoryEntry → Type 0
IsOrderly history = is_orderly history ≡ true

-- a history that has grown
abbrev pub IsLonger : List HistoryEntry → List HistoryEntry → Type 0
IsLonger before after = IsPrefix before after × (length before < length after)

-- Whether the entry was appended to a history that has the earlier one. If it was not, the history
-- had grown meanwhile.
abbrev pub AppendsOrIsLonger : Bool → List HistoryEntry → List HistoryEntry → HistoryEntry → List HistoryEntry → Type 0
AppendsOrIsLonger is_appended before earlier entry after =
    MatchBool is_appended ((after ≡ before ++ entry ∷ []) × IsPrefix earlier before) (IsLonger before after)

-- The first of two words is the length of the history, and nothing follows the history's end. The
-- second word isn't used.
pub record IsKept (cells : List Cell) (history : List HistoryEntry) : Type 0 where
  pub words : cells ≡ (length history, true) ∷ (0, true) ∷ []
  pub orderly : IsOrderly history

-- the word that has the length of a history
abbrev pub length_word : Book → Named
length_word book = record { tracked = true; key = 0; book = book }

-- The entry was appended to all that had been seen, which was as long as the word said, or the
-- history was longer and was seen.
abbrev pub Appends : Step HistoryEntry → View HistoryEntry ℕ → ℕ → View HistoryEntry ℕ → Type 0
Appends s before found after = MatchBool (found == s.old)
    ((after.0 ≡ before.0 ++ s.ask ∷ []) × (length before.0 ≡ s.old) × IsOrderly after.0)
    ((length after.0 ≡ found) × IsOrderly after.0)
