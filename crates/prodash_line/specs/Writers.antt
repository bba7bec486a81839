-- A screen that wraps a writer: the calls that it makes on the writer, and what they do to the screen.
use Rattle.std.specs.Prelude.{◌≡◌, ℕ, ◌==◌, Bool, true, false, ◌&&◌, ◌||◌, List, [], ◌∷◌, ◌++◌, take, Option, Some, None, if◌then◌else◌, Result, Ok, Err}
use Rattle.prodash_base.specs.declared.refusal.Refusal.{Refusal}
use Rattle.prodash_base.specs.declared.refusal.Refusal.TheVariants as refusals
use Rattle.prodash_line.specs.Screens.{ScreenState, has_bytes}

-- one call made on a writer
pub data WriterCall : Type 0 where
  -- a write of these bytes, and how many of them it took; none if it returned an error
  Write : List ℕ → Option ℕ → WriterCall
  -- a flush, and whether it returned no error
  Flush : Bool → WriterCall

-- a write of some bytes took none of them
abbrev pub took_nothing : List ℕ → ℕ → Bool
took_nothing bytes n = has_bytes bytes && (n == 0)

-- What a call does to a screen: a write adds the bytes that it took. An error of any kind breaks the screen, and so does a write that took nothing.
abbrev pub after_call : ScreenState → WriterCall → ScreenState
after_call s (Write bytes None) = record s { broken = true }
after_call s (Write bytes (Some n)) = record s { bytes = s.bytes ++ take n bytes; broken = s.broken || took_nothing bytes n }
after_call s (Flush true) = record s { flushed = s.bytes }
after_call s (Flush false) = record s { broken = true }

-- the bytes that a writer is known to hold; no bytes if they aren't known
abbrev pub known_bytes : Option (List ℕ) → List ℕ
known_bytes None = []
known_bytes (Some bytes) = bytes

-- the screen after these calls, the latest first, of a writer that was known to hold these bytes before them
abbrev pub screen_after : Option (List ℕ) → List WriterCall → ScreenState
screen_after held [] = record { bytes = known_bytes held; flushed = []; broken = false }
screen_after held (call ∷ calls) = after_call (screen_after held calls) call

-- what is returned for bytes of which the writer took this many
abbrev pub put_result : List ℕ → Option ℕ → Result ℕ Refusal
put_result bytes None = Err refusals.Broken
put_result bytes (Some n) = if took_nothing bytes n then Err refusals.Broken else Ok n

-- The writer is called once more, for a write of all the bytes. How many of them it took decides what is returned.
abbrev pub WritesOnce : List ℕ → Result ℕ Refusal → List WriterCall → List WriterCall → Type 0
WritesOnce bytes result old new = (taken : Option ℕ) × (new ≡ Write bytes taken ∷ old) × (result ≡ put_result bytes taken)

-- These calls, the latest first, lead from a writer to another; given where one call leads.
abbrev pub Leads : {W : Type 0} → (W → WriterCall → W → Type 0) → W → List WriterCall → W → Type 0
Leads leads first [] now = now ≡ first
Leads {W} leads first (call ∷ calls) now = (before : W) × Leads leads first calls before × leads before call now

-- a screen that wraps a writer
pub record OverWriteState (W : Type 0) : Type 0 where
  pub writer : W
  -- the writer as it was when the screen was made
  pub made_with : W
  -- the calls made on it since, the latest first
  pub calls : List WriterCall

-- the bytes taken and flushed, and whether it is broken; given which bytes a writer is known to hold
abbrev pub screen_of : {W : Type 0} → (W → Option (List ℕ)) → OverWriteState W → ScreenState
screen_of contents s = screen_after (contents s.made_with) s.calls

-- a writer that was known to hold some bytes is known to hold these now
abbrev pub Holds : Option (List ℕ) → Option (List ℕ) → List ℕ → Type 0
Holds before now bytes = (held : List ℕ) → before ≡ Some held → now ≡ Some bytes

-- if the bytes that the writer of a screen held were known when the screen was made, this writer is known to hold those that the screen has taken
abbrev pub HoldsTaken : {W : Type 0} → (W → Option (List ℕ)) → OverWriteState W → W → Type 0
HoldsTaken contents s writer = Holds (contents s.made_with) (contents writer) (screen_of contents s).bytes
