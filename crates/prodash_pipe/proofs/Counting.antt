-- Counts of one part after the other.
use Rattle.std.proofs.Common.{◌≡◌, ℕ, ◌+◌, ◌-◌, ◌^◌, ◌≤◌, min, List, [], ◌∷◌, ◌++◌, Option, refl, sym, ap, ◌∙◌, append_assoc, append-nil, arith, length-append}
use Rattle.std.proofs.lemmas.List.Sums.{sum_by-append}
use Rattle.std.proofs.lemmas.List.Elements.{All-append, All-nil, All-cons, All-weaker}
use Rattle.std.proofs.KnownBytes.{Appends-nil, Appends-trans}
use Rattle.std.specs.Io.KnownBytes.{Appends}
use Rattle.prodash_pipe.specs.Counts.{Counts, IsCountOfFront, MeterOf, count_after, size}
use Rattle.prodash_pipe.specs.declared.unit.Unit.{Unit}
use Rattle.prodash_pipe.specs.declared.unit.Unit.TheVariants.{Bytes, Lines}

size-append : (unit : Unit) (xs ys : List ℕ) → size unit (xs ++ ys) ≡ size unit xs + size unit ys
size-append Bytes xs ys = length-append xs ys
size-append Lines xs ys = sum_by-append _ xs ys

-- as far as there is room up to m
room_twice : (m n x y : ℕ) → n + min x (m - n) + min y (m - (n + min x (m - n))) ≡ n + min (x + y) (m - n)
room_twice m n x y = omega arith

-- a sum that stops at m
pub room_once : (m n x : ℕ) → n ≤ m → min (n + x) m ≡ n + min x (m - n)
room_once m n x fits = omega (arith, fits)

-- a count of one part after the other is that of both
count_after_both : (unit : Unit) (n : ℕ) (xs ys : List ℕ) → count_after unit (count_after unit n xs) ys ≡ count_after unit n (xs ++ ys)
count_after_both unit n xs ys = rw (size-append unit xs ys) (room_twice (2 ^ 64 - 1) n (size unit xs) (size unit ys))

-- the count of all bytes is shown
pub counts_all : (m : MeterOf) (bytes : List ℕ) (shown : Option (List ℕ)) → Appends m.shown shown (count_after m.unit m.count bytes ∷ []) → Counts bytes m (record m { count = count_after m.unit m.count bytes; shown = shown })
counts_all m bytes shown shows = record {
  count = refl;
  unit = refl;
  counts = count_after m.unit m.count bytes ∷ [];
  shown = shows;
  fronts = All-cons (IsCountOfFront m bytes) _ [] (bytes, [], sym (append-nil bytes), refl) (All-nil _);
}

-- counts of one part after the other are those of both
pub counts_both : (m m1 m2 : MeterOf) (xs ys : List ℕ) → Counts xs m m1 → Counts ys m1 m2 → Counts (xs ++ ys) m m2
counts_both m m1 m2 xs ys one two = record {
  count = two.count ∙ ap (λ it. count_after it m1.count ys) one.unit ∙ ap (λ it. count_after m.unit it ys) one.count ∙ count_after_both m.unit m.count xs ys;
  unit = two.unit ∙ one.unit;
  counts = one.counts ++ two.counts;
  shown = Appends-trans m.shown m1.shown m2.shown one.counts two.counts one.shown two.shown;
  fronts = All-append whole one.counts two.counts (All-weaker (IsCountOfFront m xs) whole longer one.counts one.fronts) (All-weaker (IsCountOfFront m1 ys) whole later two.counts two.fronts);
}
  where
    whole : ℕ → Type 0
    whole = IsCountOfFront m (xs ++ ys)

    longer : (n : ℕ) → IsCountOfFront m xs n → IsCountOfFront m (xs ++ ys) n
    longer n (front, rest, split, is) = (front, rest ++ ys, ap (λ it. it ++ ys) split ∙ append_assoc front rest ys, is)

    later : (n : ℕ) → IsCountOfFront m1 ys n → IsCountOfFront m (xs ++ ys) n
    later n (front, rest, split, is) =
        (xs ++ front, rest, ap (λ it. xs ++ it) split ∙ sym (append_assoc xs front rest), is ∙ ap (λ it. count_after it m1.count front) one.unit ∙ ap (λ it. count_after m.unit it front) one.count ∙ count_after_both m.unit m.count xs front)

-- no bytes are counted yet
pub counts_none : (m : MeterOf) → Counts [] m m
counts_none m = record { count = by_unit m.unit; unit = refl; counts = []; shown = Appends-nil m.shown; fronts = All-nil _ }
  where
    none : m.count ≡ m.count + min 0 (2 ^ 64 - 1 - m.count)
    none = omega arith

    by_unit : (unit : Unit) → m.count ≡ count_after unit m.count []
    by_unit Bytes = none
    by_unit Lines = none
