-- The state of a screen, and what a frame does to it.
use Rattle.std.specs.Prelude.{◌≡◌, ℕ, ◌+◌, Bool, true, false, ◌≤◌, nat_lt, List, ◌++◌, length, take, if◌then◌else◌, IsTrue}

-- the bytes taken so far, those flushed so far, and whether the screen is broken
pub record ScreenState : Type 0 where
  pub bytes : List ℕ
  pub flushed : List ℕ
  pub broken : Bool

-- new is old and a prefix of the bytes
abbrev pub TakesPrefix : List ℕ → List ℕ → List ℕ → Type 0
TakesPrefix bytes old new = (n : ℕ) × (n ≤ length bytes) × (new ≡ old ++ take n bytes)

-- the first n of the bytes are taken
abbrev pub Takes : List ℕ → ScreenState → ScreenState → ℕ → Type 0
Takes bytes s s' n = (n ≤ length bytes) × (s'.bytes ≡ s.bytes ++ take n bytes)

-- if the screen was broken, it is still, and has taken nothing
abbrev pub StaysBroken : ScreenState → ScreenState → Type 0
StaysBroken s s' = IsTrue s.broken → IsTrue s'.broken × (s'.bytes ≡ s.bytes)

-- all bytes taken are flushed
abbrev pub IsFlushed : ScreenState → Type 0
IsFlushed s = s.flushed ≡ s.bytes

-- are there any bytes?
abbrev pub has_bytes : List ℕ → Bool
has_bytes bytes = nat_lt 0 (length bytes)

-- The screen isn't broken, takes all bytes of a frame, and flushes them with all that it took before. A frame without bytes does nothing to
-- the screen, broken or not.
pub record WritesFrame (frame : List ℕ) (s s' : ScreenState) : Type 0 where
  pub bytes : s'.bytes ≡ s.bytes ++ frame
  pub flushed : s'.flushed ≡ (if has_bytes frame then s'.bytes else s.flushed)
  pub healthy : IsTrue (has_bytes frame) → s.broken ≡ false
  pub broken : s'.broken ≡ s.broken

-- The screen breaks during a frame, a prefix of whose bytes it has taken; or it was broken before, and takes nothing.
pub record BreaksDuring (frame : List ℕ) (s s' : ScreenState) : Type 0 where
  pub some : IsTrue (has_bytes frame)
  pub prefix : TakesPrefix frame s.bytes s'.bytes
  pub idle : IsTrue s.broken → s'.bytes ≡ s.bytes
  pub broken : s'.broken ≡ true

-- a screen in memory: the bytes taken, how many fit without a growth, and whether it is broken
pub record MemoryScreenState : Type 0 where
  pub bytes : List ℕ
  pub room : ℕ
  pub broken : Bool

-- the screen that it is: all bytes taken are flushed
abbrev pub memory_state : MemoryScreenState → ScreenState
memory_state s = record { bytes = s.bytes; flushed = s.bytes; broken = s.broken }

-- these bytes fit besides those taken
abbrev pub FitsRoom : List ℕ → MemoryScreenState → Type 0
FitsRoom bytes s = length s.bytes + length bytes ≤ s.room
