-- Where the first line feed of bytes is.
use Rattle.std.proofs.Common.{◌≡◌, ℕ, suc, ◌+◌, ◌<◌, ◌≤◌, true, false, List, [], ◌∷◌, ◌++◌, length, take, drop, slice_index, nat_eq, refl, ap, arith, sym, ◌∙◌, Option, None, Some, ⊎_elim, eqb-true, length-take, get_or-take, add-one, slice_range, take-take, ◌-◌}
use Rattle.std.proofs.lemmas.Bool.{cases_Bool}
use Rattle.std.proofs.lemmas.List.{take-append-drop, drop-take, drop-drop}
use Rattle.std.proofs.Math.Seq.{drop-cons}
use Rattle.memchr.specs.Find.{IsFirstByte, is_byte}
use Rattle.prodash_script.specs.Streams.{IsLineThen, has_line_feed}
use Rattle.prodash_script.specs.plumbing.Streams.{FindsLineFeed}

-- bytes of which none is a line feed have none
no_line_feed : (bytes : List ℕ) → ((k : ℕ) → k < length bytes → ¬ (nat_eq (slice_index bytes k) 10 ≡ true)) → has_line_feed bytes ≡ false
no_line_feed [] none = refl
no_line_feed (b ∷ bytes) none =
    let rest : has_line_feed bytes ≡ false = no_line_feed bytes (λ k lt. none (suc k) (omega arith)) in
    ⊎_elim
    (λ (is : nat_eq b 10 ≡ true). absurd (none 0 (omega arith) is))
    (λ (is_not : nat_eq b 10 ≡ false). rw (is_not, rest) refl)
    (cases_Bool (nat_eq b 10))

-- what `memchr` finds
pub finds_line_feed : (bytes : List ℕ) (found : Option ℕ) → IsFirstByte (is_byte 10) bytes found → FindsLineFeed bytes found
finds_line_feed bytes None none = no_line_feed bytes (λ k lt. none k (omega arith) lt)
finds_line_feed bytes (Some n) (place, passes) =
    let short : length (take n bytes) ≤ n = omega (arith, length-take n bytes) in
    let before : has_line_feed (take n bytes) ≡ false = no_line_feed (take n bytes) (λ k lt is.
    place.before k (omega arith) (omega arith) (rw (← get_or-take n bytes k 0 (omega arith)) is)) in
    let at : slice_index bytes n ≡ 10 = eqb-true _ _ passes in
    let rest : drop n bytes ≡ 10 ∷ drop (n + 1) bytes = rw add-one (drop-cons bytes n 0 place.high ∙ ap (λ b. b ∷ drop (suc n) bytes) at) in
    (place.high, (sym (take-append-drop n bytes) ∙ ap (λ tail. take n bytes ++ tail) rest, before))

-- a front of a part of a list, and the rest of that part
pub slice_front : (bytes : List ℕ) (from to n : ℕ) → n ≤ to - from → take n (slice_range bytes from to) ≡ slice_range bytes from (from + n)
slice_front bytes from to n le =
    let count : from + n - from ≡ n = omega arith in
    rw (count, take-take n (to - from) (drop from bytes) le) refl

pub slice_rest : (bytes : List ℕ) (from to n : ℕ) → n ≤ to - from → drop n (slice_range bytes from to) ≡ slice_range bytes (from + n) to
slice_rest bytes from to n le =
    let count : to - from ≡ n + (to - (from + n)) = omega arith in
    rw (count, drop-take n (to - (from + n)) (drop from bytes), drop-drop n from bytes) refl

-- a line that is found in a part of a list
pub finds_in_slice : (bytes : List ℕ) (from to n : ℕ) → from ≤ to → FindsLineFeed (slice_range bytes from to) (Some n) → IsLineThen (slice_range bytes from to) (slice_range bytes from (from + n)) (slice_range bytes (from + n + 1) to)
finds_in_slice bytes from to n le (lt, (split, before)) =
    let short : length (slice_range bytes from to) ≤ to - from = omega (arith, length-take (to - from) (drop from bytes)) in
    let place : from + (n + 1) ≡ from + n + 1 = omega arith in
    rw (← slice_front bytes from to n (omega arith), ← place, ← slice_rest bytes from to (n + 1) (omega arith)) (split, before)
