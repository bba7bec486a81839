-- Lines of a stream of bytes.
use Rattle.std.specs.Prelude.{◌≡◌, ◌≢◌, ◌≤◌, ◌<◌, ℕ, List, [], ◌∷◌, ◌++◌, Bool, true, false, length, Option, Result, MatchResult, Ok, nat_eq}
use Rattle.std.specs.List.{list_any}
use Rattle.std.specs.Io.{StartsWith}
use Rattle.std.specs.Io.KnownBytes.{Consumes, IsAtEnd}
use Rattle.prodash_script.specs.declared.next.Next.{Next}
use Rattle.prodash_script.specs.declared.next.Next.TheVariants.{Line, TooLong, CutOff, End}
use Rattle.prodash_script.specs.declared.next.TheConstants.{LIMIT}

-- lines of a stream: the latest, the bytes read and not yet taken, and those to come, if known
pub record LinesOf : Type 0 where
  pub latest : List ℕ
  pub waiting : List ℕ
  pub to_come : Option (List ℕ)

-- whether bytes have a line feed
abbrev pub has_line_feed : List ℕ → Bool
has_line_feed bytes = list_any (λ b. nat_eq b 10) bytes

-- bytes begin with a line and its line feed, and the rest follows
abbrev pub IsLineThen : List ℕ → List ℕ → List ℕ → Type 0
IsLineThen bytes line rest = (bytes ≡ line ++ 10 ∷ rest) × (has_line_feed line ≡ false)

-- what is kept of a line: all up to the limit, else a front of it
abbrev pub IsKeptOf : List ℕ → List ℕ → Type 0
IsKeptOf kept line = StartsWith line kept × (length line ≤ LIMIT → kept ≡ line)

-- what is taken of the bytes up to where a call has read, and what it says of them
abbrev pub Takes : List ℕ → Next → LinesOf → Type 0
Takes bytes Line new = IsLineThen bytes new.latest new.waiting × (length new.latest ≤ LIMIT)
Takes bytes TooLong new =
    (line : List ℕ)
    × IsLineThen bytes line new.waiting
    × (LIMIT < length line)
    × StartsWith line new.latest
Takes bytes CutOff new =
    (bytes ≢ [])
    × (has_line_feed bytes ≡ false)
    × IsKeptOf new.latest bytes
    × (new.waiting ≡ [])
    × IsAtEnd new.to_come
Takes bytes End new =
    (bytes ≡ []) × (new.latest ≡ []) × (new.waiting ≡ []) × IsAtEnd new.to_come

-- what an error drops: bytes without a line feed
abbrev pub Drops : List ℕ → LinesOf → Type 0
Drops bytes new =
    (dropped : List ℕ) × (bytes ≡ dropped ++ new.waiting) × (has_line_feed dropped ≡ false)

-- the next line of the bytes that wait and those that were read
abbrev pub Advances : {E : Type 0} → LinesOf → Result Next E → LinesOf → Type 0
Advances old result new =
    (read : List ℕ)
    × Consumes old.to_come new.to_come read
    × MatchResult result
    (λ next. Takes (old.waiting ++ read) next new)
    (λ _. Drops (old.waiting ++ read) new)

-- a line that waits is taken at once: nothing is read, and no memory is needed
abbrev pub TakesWaiting : {E : Type 0} → LinesOf → Result Next E → LinesOf → Type 0
TakesWaiting old result new =
    has_line_feed old.waiting ≡ true
    → (result ≡ Ok Line)
    × (new.to_come ≡ old.to_come)
    × IsLineThen old.waiting new.latest new.waiting
