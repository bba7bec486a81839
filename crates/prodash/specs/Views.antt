-- Views of recorded trees: what a look shows, and which calls came before it.
use Rattle.std.specs.Prelude.{◌≡◌, ℕ, ◌+◌, Bool, cond, not, nat_eq, List, [], length, take, Option, Some, None, unwrap_or, Result, Ok, Err, IfOk}
use Rattle.std.specs.FinMap as finite
use Rattle.std.specs.Global.{Vec}
use Rattle.prodash_base.specs.Rows.{PathRow, rows_of}
use Rattle.prodash_base.specs.declared.messages.Message.{Message}
use Rattle.prodash_base.specs.declared.progress.Row.{Row}
use Rattle.prodash_base.specs.declared.refusal.Refusal.{Refusal}
use Rattle.prodash_line.specs.Renderer.{Renderer, Seen, Accepts}
use Rattle.prodash_line.specs.Screens.{ScreenState}
use Rattle.prodash_line.specs.declared.render.line.draw.input.Answer.{Answer}
use Rattle.prodash_line.specs.declared.render.line.draw.input.Input.TheVariants as inputs
use Rattle.prodash_core.specs.Sessions.{SessionState, Steps, frame_reply}
use Rattle.prodash_core.specs.declared.tree.event.Event.TheVariants as events
use Rattle.prodash_core.specs.Trees.{Tree, new_tree, slot_at, snapshot_of}
use Rattle.prodash_core.specs.declared.tree.event.Event.{Event}
use Rattle.prodash_core.specs.declared.tree.event.Reply.{Reply}
use Rattle.prodash_core.specs.declared.tree.slot.Slot.{Slot}
use Rattle.prodash.specs.Engines.{EngineState, StepsAt}
use Rattle.prodash.specs.Journals.{Recorded, Replays}
use Rattle.prodash.specs.declared.render.line.engine.event.EngineEvent.TheVariants as engine_events
use Rattle.prodash.specs.declared.tree.turns.Turn.{Turn}

-- what a look shows: the rows, the new messages, and how many messages were sent by then
abbrev pub Shown : Type 0
Shown = List PathRow × List Message × ℕ

-- what a frame sees, or nothing, and no message more than before
abbrev pub or_nothing : Option ℕ → Seen → Shown
or_nothing previous None = ([], [], unwrap_or previous 0)
or_nothing previous (Some shown) = shown

-- what a look shows of a tree after `previous` messages were seen: what a frame sees, which is
-- nothing once the root was dropped
abbrev pub shown_of : Tree → Option ℕ → Shown
shown_of t previous = or_nothing previous (snapshot_of t previous)

-- the number of tasks that a view shows: all of the tree, or none once the root was dropped
abbrev pub tasks_by : Option Slot → Tree → ℕ
tasks_by None t = 0
tasks_by (Some root) t = finite.len t.table

-- the same of a tree
abbrev pub tasks_of : Tree → ℕ
tasks_of t = tasks_by (slot_at t 0) t

-- A recorded tree as views find it: how many of them own it, the tree, and the accepted calls that
-- led to it.
pub record Viewed : Type 0 where
  pub owners : ℕ
  pub tree : Tree
  pub entries : List (Event × Reply)

-- a recorded tree with this many owners
abbrev pub owned_by : ℕ → Recorded → Viewed
owned_by owners recorded =
    record { owners = owners; tree = recorded.tree; entries = recorded.entries }

-- the session of a tree and a renderer
abbrev pub session_of : Tree → Renderer → SessionState
session_of t r = record { tree = t; renderer = r }

-- a tree without calls, which is under no lock
abbrev pub unused : Recorded
unused = record { capacity = 0; tree = new_tree 0; entries = [] }

-- The recorded tree as it is, or, once its journal is taken out, as it was then.
abbrev pub viewed : ℕ → Option Recorded → Option Recorded → Viewed
viewed owners (Some recorded) last = owned_by owners recorded
viewed owners None last = owned_by owners (unwrap_or last unused)

-- what is known of a turn and the recorded tree that it found, or that it left
abbrev pub OfViewTurn : Type 1
OfViewTurn = Turn → Viewed → Type 0

-- The fact holds of the recorded tree that one turn found and of the one that the same turn left.
abbrev pub InOneTurn : OfViewTurn → OfViewTurn → (Viewed → Viewed → Type 0) → Type 0
InOneTurn found left fact = (turn : Turn) × (old : Viewed) × (new : Viewed)
    × found turn old × left turn new × fact old new

-- One turn found a recorded tree of which the fact holds, and left it as it was.
abbrev pub Reads : OfViewTurn → OfViewTurn → (Viewed → Type 0) → Type 0
Reads found left fact = InOneTurn found left (λ old new. (new ≡ old) × fact old)

-- The calls are those that led to the tree. A new tree that keeps this many messages accepts them
-- with their replies, which leads to the tree again, and this is what a frame sees of it.
abbrev pub Sees : ℕ → Option ℕ → List (Event × Reply) → Seen → Viewed → Type 0
Sees capacity previous entries seen tree = (entries ≡ tree.entries)
    × Replays capacity tree.entries tree.tree × (seen ≡ snapshot_of tree.tree previous)

-- the same of what a look shows of the tree
abbrev pub IsLook : ℕ → Option ℕ → List (Event × Reply) → Shown → Viewed → Type 0
IsLook capacity previous entries shown tree = (entries ≡ tree.entries)
    × Replays capacity tree.entries tree.tree × (shown ≡ shown_of tree.tree previous)

-- one look, whatever calls it saw
abbrev pub HasLook : ℕ → Option ℕ → Shown → Viewed → Type 0
HasLook capacity previous shown tree =
    (entries : List (Event × Reply)) × IsLook capacity previous entries shown tree

-- the rows that one look at all shows
abbrev pub LooksRows : ℕ → List PathRow → Viewed → Type 0
LooksRows capacity rows tree =
    (shown : Shown) × HasLook capacity None shown tree × (rows ≡ shown.0)

-- the messages that one look at all shows
abbrev pub LooksMessages : ℕ → List Message → Viewed → Type 0
LooksMessages capacity messages tree =
    (shown : Shown) × HasLook capacity None shown tree × (messages ≡ shown.1)

-- the messages that one look shows, after `previous` were seen, and how many were sent by then
abbrev pub LooksNews : ℕ → Option ℕ → List Message → ℕ → Viewed → Type 0
LooksNews capacity previous messages sent tree =
    (shown : Shown) × HasLook capacity previous shown tree × (messages ≡ shown.1) × (sent ≡ shown.2)

-- One turn found a recorded tree of which this is a look.
abbrev pub ReadsLook : OfViewTurn → OfViewTurn → ℕ → Option ℕ → Shown → Type 0
ReadsLook found left capacity previous shown = Reads found left (HasLook capacity previous shown)

-- the same, with the calls that led to the tree
abbrev pub ReadsLookAfter : OfViewTurn → OfViewTurn → ℕ → Option ℕ → Shown × List (Event × Reply) → Type 0
ReadsLookAfter found left capacity previous look =
    Reads found left (IsLook capacity previous look.1 look.0)

-- One turn found a recorded tree with these rows.
abbrev pub ReadsRows : OfViewTurn → OfViewTurn → ℕ → Vec Row → Type 0
ReadsRows found left capacity rows = Reads found left (LooksRows capacity (rows_of rows.items))

-- One turn found a recorded tree with these messages.
abbrev pub ReadsMessages : OfViewTurn → OfViewTurn → ℕ → Vec Message → Type 0
ReadsMessages found left capacity messages =
    Reads found left (LooksMessages capacity messages.items)

-- One turn found a recorded tree with these messages after `previous` were seen, and so many sent.
abbrev pub ReadsNews : OfViewTurn → OfViewTurn → ℕ → Option ℕ → Vec Message → ℕ → Type 0
ReadsNews found left capacity previous messages sent =
    Reads found left (LooksNews capacity previous messages.items sent)

-- Unless the call is refused, one turn found a recorded tree of which these rows and messages are a
-- look, after `previous` messages were seen. What is returned is how many were sent by then.
abbrev pub Copies : OfViewTurn → OfViewTurn → ℕ → Option ℕ → Vec Row → Vec Message → Result ℕ Refusal → Type 0
Copies found left capacity previous rows messages result = IfOk result (λ sent.
    Reads found left (HasLook capacity previous (rows_of rows.items, messages.items, sent)))

-- the number of tasks that a view shows of the tree
abbrev pub ShowsTasks : ℕ → Viewed → Type 0
ShowsTasks tasks tree = tasks ≡ tasks_of tree.tree

-- the recorded tree with one owner more
abbrev pub with_view : Viewed → Viewed
with_view tree = record tree { owners = tree.owners + 1 }

-- A recorded tree gets one owner more.
abbrev pub GetsView : Viewed → Viewed → Type 0
GetsView old new = new ≡ with_view old

-- A recorded tree gets one owner more exactly if it has one, and else stays; this says whether it
-- has.
abbrev pub FindsView : Bool → Viewed → Viewed → Type 0
FindsView is_owned old new =
    (is_owned ≡ not (nat_eq old.owners 0)) × (new ≡ cond is_owned (with_view old) old)

-- The entries are the first of a journal, as many as there are.
abbrev pub IsFront : List (Event × Reply) → List (Event × Reply) → Type 0
IsFront entries journal = entries ≡ take (length entries) journal

-- what is known of a receipt of a look: the tree that the look saw
abbrev pub OfReceipt : Type 0 → Type 1
OfReceipt Receipt = Receipt → Tree → Type 0

module _ {Receipt : Type 0} where
  -- What a tick sees, by the receipt of its look: what a frame sees of the tree of the receipt. It
  -- sees nothing without a look.
  abbrev pub SeesTree : OfReceipt Receipt → Option ℕ → Option Receipt → Seen → Type 0
  SeesTree is_of previous None seen = seen ≡ None
  SeesTree is_of previous (Some receipt) seen =
      (t : Tree) × is_of receipt t × (seen ≡ snapshot_of t previous)

  -- what a tick may see
  abbrev pub MaySeeTree : OfReceipt Receipt → Option ℕ → Seen → Type 0
  MaySeeTree is_of previous seen = (receipt : Option Receipt) × SeesTree is_of previous receipt seen

  -- The frame of a tick is that of a session with the tree of the receipt. Without a receipt it is
  -- the closing frame.
  abbrev pub DrawsTree : OfReceipt Receipt → ℕ → Bool → Option Receipt → Renderer → ScreenState → Answer → Renderer → ScreenState → Type 0
  DrawsTree is_of at show None r s answer r' s' =
      Accepts r (inputs.Tick at show None) s answer r' s'
  DrawsTree is_of at show (Some receipt) r s answer r' s' = (t : Tree) × is_of receipt t
      × Steps (session_of t r) s (events.Tick at show) (frame_reply (Ok answer)) (session_of t r') s'

  -- what a tick returns, and what it leaves of the renderer and the screen
  abbrev pub TicksAt : OfReceipt Receipt → ℕ → Bool → Renderer → ScreenState → Result (Answer × Option Receipt) Refusal → Renderer → ScreenState → Type 0
  TicksAt is_of at show r s (Ok drawn) r' s' = DrawsTree is_of at show drawn.1 r s drawn.0 r' s'
  TicksAt is_of at show r s (Err refusal) r' s' =
      StepsAt (engine_events.Tick at show) (MaySeeTree is_of r.seen) r s (Err refusal) r' s'

module _ {S W Receipt : Type 0} where
  -- what a tick of an engine returns, and what it leaves of the renderer and the screen
  abbrev pub EngineTicks : (S → ScreenState) → OfReceipt Receipt → ℕ → Bool → EngineState S W
      → Result (Answer × Option Receipt) Refusal → EngineState S W → Type 0
  EngineTicks state is_of at show e result e' =
      TicksAt is_of at show e.renderer (state e.screen) result e'.renderer (state e'.screen)
