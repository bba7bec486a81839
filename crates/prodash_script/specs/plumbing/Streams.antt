-- What the parts of a line are taken from, and what is kept of them.
use Rattle.std.specs.Prelude.{◌≡◌, ◌<◌, ◌≤◌, ◌+◌, ℕ, List, [], ◌++◌, Bool, false, length, take, drop, Option, Result, MatchOption, IfOk, ⊤, nat_lt, if◌then◌else◌}
use Rattle.std.specs.Bool.{MatchBool}
use Rattle.std.specs.Io.{StartsWith}
use Rattle.std.specs.Io.KnownBytes.{Consumes, IsAtEnd}
use Rattle.prodash_script.specs.Streams.{LinesOf, IsLineThen, has_line_feed}
use Rattle.prodash_script.specs.declared.next.TheConstants.{LIMIT}
use Rattle.prodash_script.specs.declared.next.Next.{Next}
use Rattle.prodash_script.specs.declared.next.Next.TheVariants.{CutOff, End}
use Rattle.prodash_script.specs.declared.part.Part.{Part}

-- a part keeps what it is to keep of a line
abbrev pub Holds : Part → List ℕ → Type 0
Holds part line =
    MatchBool part.is_too_long
    ((LIMIT < length line) × StartsWith line part.bytes.items)
    (part.bytes.items ≡ line)

-- of whatever line the old part was, the new one is that line with further bytes
abbrev pub Extends : Part → Part → List ℕ → Type 0
Extends old new bytes = (line : List ℕ) → Holds old line → Holds new (line ++ bytes)

-- at the end of the stream a part is a line that was cut off, or none
abbrev pub EndsAs : Part → Next → Type 0
EndsAs part next =
    (line : List ℕ)
    → Holds part line
    → next ≡ if nat_lt 0 (length line) then CutOff else End

-- where the first line feed of bytes is
abbrev pub FindsLineFeed : List ℕ → Option ℕ → Type 0
FindsLineFeed bytes found =
    MatchOption found
    (has_line_feed bytes ≡ false)
    (λ n. (n < length bytes) × IsLineThen bytes (take n bytes) (drop (n + 1) bytes))

-- a part takes bytes up to the line feed, if they have one, else all
abbrev pub TakesPart : List ℕ → Bool → List ℕ → Part → Part → Type 0
TakesPart bytes is_whole rest old new =
    MatchBool is_whole
    ((piece : List ℕ) × IsLineThen bytes piece rest × Extends old new piece)
    ((has_line_feed bytes ≡ false) × (rest ≡ []) × Extends old new bytes)

-- further bytes wait that were read, unless the stream has ended
abbrev pub Fills : {E : Type 0} → LinesOf → Result Bool E → LinesOf → Type 0
Fills old result new =
    (read : List ℕ)
    × Consumes old.to_come new.to_come read
    × (new.waiting ≡ old.waiting ++ read)
    × IfOk result (λ more. MatchBool more ⊤ ((new.waiting ≡ []) × IsAtEnd new.to_come))

-- a line that waits is taken as a whole
abbrev pub TakesWhole : LinesOf → Bool → LinesOf → Type 0
TakesWhole old is_whole new =
    MatchBool is_whole
    (
    IsLineThen old.waiting new.latest new.waiting
    × (length new.latest ≤ LIMIT)
    × (new.to_come ≡ old.to_come)
    )
    ((has_line_feed old.waiting ≡ false) × (new ≡ old))
