-- Short texts: zeros lie behind their bytes, and words tell whether two are equal.
use Rattle.std.proofs.Common.{ℕ, ◌≡◌, ◌≤◌, ◌<◌, ◌+◌, ◌-◌, ◌++◌, ◌↔◌, ◌&&◌, List, Bool, true, false, IsTrue, length, take, drop, nat_eq, refl, sym, ap, ◌∙◌, arith, IsUtf8, length-append, length-drop, length-take-le, take-append-drop, take_at, get_or, ◌⊎◌, inl, inr}
use Rattle.std.proofs.lemmas.List.{drop-replicate, drop_at, drop-drop, drop_all, get_or_past}
use Rattle.std.proofs.lemmas.Bool.{and_parts, cases_lt}
use Rattle.std.proofs.lemmas.Simd.{chunk-drop, length-chunk, get_or-chunk}
use Rattle.std.proofs.lemmas.Nat.{le_bytes_8}
use Rattle.std.proofs.Math.ListN.{replicate}
use Rattle.std.specs.Cmp.Lexicographic.{pointwise}
use Rattle.std.specs.Int.{w64, from_le_bytes, to_le_bytes}
use lib.Lanes.{chunk}
use Rattle.prodash_base.specs.plumbing.EqualityTests.{texts, numbers, sound, itself}

-- what the fields of a short text keep
abbrev pub IsPadded : ℕ → List ℕ → Type 0
IsPadded count bytes =
    (count ≤ 30) × (length bytes ≡ 30) × ∥ IsUtf8 (take count bytes) ∥₁
    × (drop count bytes ≡ replicate (30 - count) 0)

-- a text in the place of the first of thirty zeros
pub padded : (front text : List ℕ) → front ≡ text → IsUtf8 text → length text ≤ 30
    → IsPadded (length text) (front ++ drop (length text) (replicate 30 0))
padded front text e u short =
    let n = length text in
    let zeros = drop n (replicate 30 0) in
    let same : front ++ zeros ≡ text ++ zeros = ap (λ l. l ++ zeros) e in
    let count : length zeros ≡ 30 - n = length-drop n (replicate 30 0) in
    let long : length (front ++ zeros) ≡ 30 =
    ap length same ∙ length-append text zeros ∙ omega (arith, count) in
    let cut : take n (front ++ zeros) ≡ text = ap (take n) same ∙ take_at text zeros n refl in
    let left : drop n (front ++ zeros) ≡ replicate (30 - n) 0 =
    ap (drop n) same ∙ drop_at text zeros n refl ∙ drop-replicate n 30 0 in
    (short, long, ∣ rw cut u ∣₁, left)

-- two tests that are true of the same are equal
same_test : (b c : Bool) → (b ≡ true → c ≡ true) → (c ≡ true → b ≡ true) → b ≡ c
same_test true c there back = sym (there refl)
same_test false true there back = back refl
same_test false false there back = refl

both_true : {b c : Bool} → b ≡ true → c ≡ true → (b && c) ≡ true
both_true b c = rw (b, c) refl

-- the lists are equal exactly if the texts are
pub same_padded : (m n : ℕ) (xs ys : List ℕ) → IsPadded m xs → IsPadded n ys
    → (nat_eq m n && pointwise nat_eq xs ys) ≡ pointwise nat_eq (take m xs) (take n ys)
same_padded m n xs ys p q = same_test _ _ there back
  where
    there : (nat_eq m n && pointwise nat_eq xs ys) ≡ true
        → pointwise nat_eq (take m xs) (take n ys) ≡ true
    there same =
        let both = and_parts (nat_eq m n) (pointwise nat_eq xs ys) same in
        let counts : m ≡ n = sound numbers m n both.0 in
        let lists : xs ≡ ys = sound texts xs ys both.1 in
        rw (counts, lists) (itself texts (take n ys))

    back : pointwise nat_eq (take m xs) (take n ys) ≡ true
        → (nat_eq m n && pointwise nat_eq xs ys) ≡ true
    back same =
        let equal : take m xs ≡ take n ys = sound texts _ _ same in
        let counts : m ≡ n = sym (length-take-le m xs (omega (arith, p.0, p.1))) ∙ ap length equal
        ∙ length-take-le n ys (omega (arith, q.0, q.1)) in
        let lefts : drop m xs ≡ drop n ys = p.3 ∙ ap (λ k. replicate (30 - k) 0) counts ∙ sym q.3 in
        let lists : xs ≡ ys = sym (take-append-drop m xs) ∙ ap (λ l. l ++ drop m xs) equal
        ∙ ap (λ l. take n ys ++ l) lefts ∙ take-append-drop n ys in
        rw (counts, lists) (both_true (itself numbers n) (itself texts ys))

-- the bytes of a part of a list
chunk_bytes : (at : ℕ) (xs : List ℕ) → ((i : ℕ) → get_or xs i 0 < 256) → at + 8 ≤ length xs
    → (i : ℕ) → get_or (chunk at 8 xs) i 0 < 256
chunk_bytes at xs bytes room i = cases (cases_lt i 8)
  where
    cases : (i < 8) ⊎ (8 ≤ i) → get_or (chunk at 8 xs) i 0 < 256
    cases (inl below) = rw (get_or-chunk at 8 xs i 0 below) (bytes (at + i))
    cases (inr past) = rw (get_or_past (chunk at 8 xs) i 0 (omega (arith, length-chunk at 8 xs room))) (omega arith)

-- two numbers that are made of eight bytes each are equal exactly if the bytes are
pub same_words : (at : ℕ) (xs ys : List ℕ) (m n : ℕ) → ((i : ℕ) → get_or xs i 0 < 256)
    → ((i : ℕ) → get_or ys i 0 < 256) → at + 8 ≤ length xs → at + 8 ≤ length ys
    → m ≡ from_le_bytes w64 (chunk at 8 xs) → n ≡ from_le_bytes w64 (chunk at 8 ys)
    → IsTrue (nat_eq m n) ↔ (chunk at 8 xs ≡ chunk at 8 ys)
same_words at xs ys m n fits_x fits_y room_x room_y first second = (there, back)
  where
    there : IsTrue (nat_eq m n) → chunk at 8 xs ≡ chunk at 8 ys
    there same =
        sym (le_bytes_8 _ m (length-chunk at 8 xs room_x) (chunk_bytes at xs fits_x room_x) first)
        ∙ ap (to_le_bytes w64) (sound numbers m n same)
        ∙ le_bytes_8 _ n (length-chunk at 8 ys room_y) (chunk_bytes at ys fits_y room_y) second

    back : chunk at 8 xs ≡ chunk at 8 ys → IsTrue (nat_eq m n)
    back same = rw (first ∙ ap (from_le_bytes w64) same ∙ sym second) (itself numbers n)

-- four words cover thirty bytes
covered : (xs ys : List ℕ) → length xs ≡ 30 → length ys ≡ 30 → chunk 0 8 xs ≡ chunk 0 8 ys
    → chunk 8 8 xs ≡ chunk 8 8 ys → chunk 16 8 xs ≡ chunk 16 8 ys → chunk 22 8 xs ≡ chunk 22 8 ys → xs ≡ ys
covered xs ys long_x long_y w x y z =
    let ends : drop 30 xs ≡ drop 30 ys =
    drop_all 30 xs (omega (arith, long_x)) ∙ sym (drop_all 30 ys (omega (arith, long_y))) in
    let after_22 : drop 22 xs ≡ drop 22 ys = joined 22 xs ys z ends in
    let after_24 : drop 24 xs ≡ drop 24 ys = sym (drop-drop 2 22 xs) ∙ ap (drop 2) after_22 ∙ drop-drop 2 22 ys in
    let after_16 : drop 16 xs ≡ drop 16 ys = joined 16 xs ys y after_24 in
    let after_8 : drop 8 xs ≡ drop 8 ys = joined 8 xs ys x after_16 in
    joined 0 xs ys w after_8
  where
    joined : (at : ℕ) (xs ys : List ℕ) → chunk at 8 xs ≡ chunk at 8 ys → drop (at + 8) xs ≡ drop (at + 8) ys
        → drop at xs ≡ drop at ys
    joined at xs ys part rest =
        chunk-drop at 8 xs ∙ ap (λ l. l ++ drop (at + 8) xs) part
        ∙ ap (λ l. chunk at 8 ys ++ l) rest ∙ sym (chunk-drop at 8 ys)

-- the tests of the four words of two lists of thirty bytes
pub same_lists : (xs ys : List ℕ) (w x y z : Bool) → length xs ≡ 30 → length ys ≡ 30
    → (IsTrue w ↔ (chunk 0 8 xs ≡ chunk 0 8 ys)) → (IsTrue x ↔ (chunk 8 8 xs ≡ chunk 8 8 ys))
    → (IsTrue y ↔ (chunk 16 8 xs ≡ chunk 16 8 ys)) → (IsTrue z ↔ (chunk 22 8 xs ≡ chunk 22 8 ys))
    → (((w && x) && y) && z) ≡ pointwise nat_eq xs ys
same_lists xs ys w x y z long_x long_y at_w at_x at_y at_z = same_test _ _ there back
  where
    there : (((w && x) && y) && z) ≡ true → pointwise nat_eq xs ys ≡ true
    there same =
        let last = and_parts ((w && x) && y) z same in
        let third = and_parts (w && x) y last.0 in
        let two = and_parts w x third.0 in
        let lists = covered xs ys long_x long_y (at_w.0 two.0) (at_x.0 two.1) (at_y.0 third.1) (at_z.0 last.1) in
        rw lists (itself texts ys)

    back : pointwise nat_eq xs ys ≡ true → (((w && x) && y) && z) ≡ true
    back same =
        let lists : xs ≡ ys = sound texts xs ys same in
        both_true (both_true (both_true (at_w.1 (ap (chunk 0 8) lists)) (at_x.1 (ap (chunk 8 8) lists)))
        (at_y.1 (ap (chunk 16 8) lists))) (at_z.1 (ap (chunk 22 8) lists))
