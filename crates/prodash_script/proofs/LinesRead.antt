-- What a loop over the parts of a line has read.
use Rattle.std.proofs.Common.{◌≡◌, ℕ, ◌<◌, ◌≤◌, Bool, true, false, List, [], ◌∷◌, ◌++◌, length, refl, ap, arith, sym, ◌∙◌, Option, None, Some, append_assoc, append-nil, if◌then◌else◌, Result, Ok, Err, IsErr, slice_range, take, ◌-◌, nat_lt, zero, suc, rules}
use Rattle.std.proofs.lemmas.Bool.{both_ways}
use Rattle.std.proofs.lemmas.List.Folds.{list_any-append}
use Rattle.std.specs.Bool.{MatchBool, ⊤}
use Rattle.std.specs.Io.{StartsWith}
use Rattle.std.specs.Io.KnownBytes.{Consumes, IsAtEnd}
use Rattle.prodash_script.specs.Streams.{LinesOf, IsLineThen, Takes, Advances, has_line_feed}
use Rattle.prodash_script.specs.plumbing.Streams.{Holds, TakesPart}
use Rattle.prodash_script.specs.declared.part.Part.{Part}
use Rattle.prodash_script.specs.declared.next.Next.{Next}
use Rattle.prodash_script.specs.declared.next.Next.TheVariants.{Line, TooLong}
use Rattle.prodash_script.specs.declared.next.TheConstants.{LIMIT}

-- what was read and of which line a part is, which has no line feed yet
pub record ReadsPart (old now : LinesOf) (part : Part) : Type 0 where
  pub read : List ℕ
  pub line : List ℕ
  pub given : Consumes old.to_come now.to_come read
  pub split : old.waiting ++ read ≡ line ++ now.waiting
  pub unended : has_line_feed line ≡ false
  pub held : Holds part line

-- nothing is read of bytes that stay
consumes_none : (known : Option (List ℕ)) → Consumes known known []
consumes_none None = tt
consumes_none (Some bytes) = refl

-- what two reads take
consumes_both : (a b c : Option (List ℕ)) (first second : List ℕ) → Consumes a b first → Consumes b c second → Consumes a c (first ++ second)
consumes_both None b c first second one two = tt
consumes_both (Some a) (Some b) (Some c) first second one two = one ∙ ap (λ rest. first ++ rest) two ∙ sym (append_assoc first second c)
consumes_both (Some a) (Some b) None first second one two = two
consumes_both (Some a) None c first second one two = absurd one

-- a whole line, by what is kept of it
ended : (bytes line kept : List ℕ) (new : LinesOf) (is_too_long : Bool) → length kept ≤ LIMIT → IsLineThen bytes line new.waiting → MatchBool is_too_long ((LIMIT < length line) × StartsWith line kept) (kept ≡ line) → Takes bytes (if is_too_long then TooLong else Line) (record new { latest = kept })
ended bytes line kept new true short whole held = (line, whole, held.0, held.1)
ended bytes line kept new false short whole held = (rw held whole, short)

pub begins : (old : LinesOf) (part : Part) → Holds part [] → ReadsPart old old part
begins old part held = record {
  read = [];
  line = [];
  given = consumes_none old.to_come;
  split = append-nil old.waiting;
  unended = refl;
  held = held;
}

module _ (old now new : LinesOf) (part : Part) (sofar : ReadsPart old now part) where
  pub filled : (read : List ℕ) → Consumes now.to_come new.to_come read → new.waiting ≡ now.waiting ++ read → ReadsPart old new part
  filled read taken waiting = record {
    read = sofar.read ++ read;
    line = sofar.line;
    given = consumes_both old.to_come now.to_come new.to_come sofar.read read sofar.given taken;
    split = sym (append_assoc old.waiting sofar.read read) ∙ ap (λ bytes. bytes ++ read) sofar.split ∙ append_assoc sofar.line now.waiting read ∙ ap (λ bytes. sofar.line ++ bytes) (sym waiting);
    unended = sofar.unended;
    held = sofar.held;
  }

  -- the bytes read are still those, whatever else has become of the lines
  given_still : new.to_come ≡ now.to_come → Consumes old.to_come new.to_come sofar.read
  given_still same = rw same sofar.given

  pub took_all : (next : Part) → new.to_come ≡ now.to_come → TakesPart now.waiting false new.waiting part next → ReadsPart old new next
  took_all next same (none, empty, more) = record {
    read = sofar.read;
    line = sofar.line ++ now.waiting;
    given = given_still same;
    split = sofar.split ∙ sym (append-nil (sofar.line ++ now.waiting)) ∙ ap (λ bytes. sofar.line ++ now.waiting ++ bytes) (sym empty);
    unended = list_any-append _ sofar.line now.waiting ∙ rw (sofar.unended, none) refl;
    held = more sofar.line sofar.held;
  }

  pub took_line : (next : Part) → new.to_come ≡ now.to_come → TakesPart now.waiting true new.waiting part next → (read : List ℕ) × Consumes old.to_come new.to_come read × Takes (old.waiting ++ read) (if next.is_too_long then TooLong else Line) (record new { latest = next.bytes.items })
  took_line next same (piece, (split, none), more) =
      let short : length next.bytes.items ≤ LIMIT = omega (arith, next.short, next.bytes.ok) in
      let line = sofar.line ++ piece in
      let whole : old.waiting ++ sofar.read ≡ line ++ 10 ∷ new.waiting = sofar.split ∙ ap (λ bytes. sofar.line ++ bytes) split ∙ sym (append_assoc sofar.line piece (10 ∷ new.waiting)) in
      let unended : has_line_feed line ≡ false = list_any-append _ sofar.line piece ∙ rw (sofar.unended, none) refl in
      (sofar.read, given_still same, ended _ line next.bytes.items new next.is_too_long short (whole, unended) (more sofar.line sofar.held))

-- an error drops what was read of a line
pub fails : {E : Type 0} (old now : LinesOf) (part : Part) → ReadsPart old now part → (result : Result Next E) → IsErr result → (latest : List ℕ) → Advances old result (record now { latest = latest })
fails old now part sofar (Err e) is latest = (sofar.read, sofar.given, (sofar.line, sofar.split, sofar.unended))
fails old now part sofar (Ok next) is latest = absurd (both_ways false refl is)

-- no bytes wait from the end on
pub nothing_waits : (bytes : List ℕ) (from to : ℕ) → to ≤ from → slice_range bytes from to ≡ []
nothing_waits bytes from to le = let none : to - from ≡ 0 = omega arith in rw none refl

-- what a read brings where none waited
pub brings : (old new : Option (List ℕ)) (buffer waiting : List ℕ) (count : ℕ) → waiting ≡ [] → 0 < length buffer → Consumes old new (take count buffer) → (count ≡ 0 → 0 < length buffer → IsAtEnd new) → (read : List ℕ) × Consumes old new read × (slice_range buffer 0 count ≡ waiting ++ read) × MatchBool (nat_lt 0 count) ⊤ ((slice_range buffer 0 count ≡ []) × IsAtEnd new)
brings old new buffer waiting zero none room given end = ([], given, sym (append-nil waiting ∙ none), (refl, end refl room))
brings old new buffer waiting (suc count) none room given end =
    let all : suc count - 0 ≡ suc count = omega arith in
    (take (suc count) buffer, given, rw (none, all) refl, search rules)
