-- The order of paths is that of their words, and of their lengths if all words are the same.
use Rattle.std.proofs.Common.{◌≡◌, ℕ, zero, suc, ◌+◌, ◌<◌, ◌≤◌, [], ◌∷◌, length, refl, sym, ◌∙◌, ap, arith, inl, inr}
use Rattle.std.proofs.lemmas.Bool.{cases_lt}
use Rattle.std.proofs.lemmas.Cmp.{ranked, by_ranked}
use Rattle.std.proofs.lemmas.List.{get_or_past}
use Rattle.std.specs.Cmp.{nat_cmp_is, unsigned_ties}
use Rattle.std.specs.Cmp.Lexicographic.{pointwise, texts_ties}
use Rattle.std.specs.Ordering.{nat_cmp, ordering_then, is_eq}
use Rattle.std.specs.Prelude.{nat_eq, ◌&&◌}
use Rattle.std.specs.declared.cmp.Ordering.{Ordering}
use Rattle.std.specs.declared.cmp.Ordering.TheVariants.{Less, Equal, Greater}
use Rattle.prodash_base.specs.Path.{Path, IsPath, path_cmp, child_limit}
use Rattle.prodash_base.specs.plumbing.KeyWords.{number_at, word_of, word_at}

less : (x y : ℕ) → x < y → nat_cmp x y ≡ Less
less x y h = sym (nat_cmp_is x y Less h)

equal : (x y : ℕ) → x ≡ y → nat_cmp x y ≡ Equal
equal x y h = sym (nat_cmp_is x y Equal h)

greater : (x y : ℕ) → y < x → nat_cmp x y ≡ Greater
greater x y h = sym (nat_cmp_is x y Greater h)

-- two words are ordered by their higher halves, and then by their lower ones
words_by_halves : (a b c d : ℕ) → b < child_limit → d < child_limit
    → nat_cmp (word_of a b) (word_of c d) ≡ ordering_then (nat_cmp a c) (nat_cmp b d)
words_by_halves a b c d low_b low_d =
    let x = word_of a b in
    let y = word_of c d in
    let after = λ (o : Ordering). ordering_then o (nat_cmp b d) in
    by_ranked _ _ _ (nat_cmp a c) (ranked a c _ refl)
    (λ is lt. less x y (omega arith) ∙ sym (ap after is))
    (λ is same. by_ranked _ _ _ (nat_cmp b d) (ranked b d _ refl)
    (λ low lt. less x y (omega arith) ∙ sym low)
    (λ low eq. equal x y (omega arith) ∙ sym low)
    (λ low gt. greater x y (omega arith) ∙ sym low) ∙ sym (ap after is))
    (λ is gt. greater x y (omega arith) ∙ sym (ap after is))

-- the order by the next k numbers from index i on, and then by `last`
abbrev by_numbers : ℕ → ℕ → Path → Path → Ordering → Ordering
by_numbers zero i p q last = last
by_numbers (suc k) i p q last = ordering_then (nat_cmp (number_at p i) (number_at q i)) (by_numbers k (suc i) p q last)

-- a path that has ended comes first
ended_first : (k i : ℕ) (q : Path) → by_numbers k i [] q Less ≡ Less
ended_first zero i q = refl
ended_first (suc k) i q = by_ranked _ _ _ (nat_cmp 0 (number_at q i)) (ranked 0 (number_at q i) _ refl)
    (λ is lt. ap (λ o. ordering_then o (by_numbers k (suc i) [] q Less)) is)
    (λ is same. ap (λ o. ordering_then o (by_numbers k (suc i) [] q Less)) is ∙ ended_first k (suc i) q)
    (λ is gt. absurd (omega arith))

ended_last : (k i : ℕ) (p : Path) → by_numbers k i p [] Greater ≡ Greater
ended_last zero i p = refl
ended_last (suc k) i p = by_ranked _ _ _ (nat_cmp (number_at p i) 0) (ranked (number_at p i) 0 _ refl)
    (λ is lt. absurd (omega arith))
    (λ is same. ap (λ o. ordering_then o (by_numbers k (suc i) p [] Greater)) is ∙ ended_last k (suc i) p)
    (λ is gt. ap (λ o. ordering_then o (by_numbers k (suc i) p [] Greater)) is)

both_ended : (k i : ℕ) → by_numbers k i [] [] Equal ≡ Equal
both_ended zero i = refl
both_ended (suc k) i = both_ended k (suc i)

-- the first numbers decide nothing further on
without_first : (k i x y : ℕ) (p q : Path) (last : Ordering) → by_numbers k (suc i) (x ∷ p) (y ∷ q) last ≡ by_numbers k i p q last
without_first zero i x y p q last = refl
without_first (suc k) i x y p q last = ap (ordering_then (nat_cmp (number_at p i) (number_at q i))) (without_first k (suc i) x y p q last)

same_lengths : (m n : ℕ) → nat_cmp (suc m) (suc n) ≡ nat_cmp m n
same_lengths m n = by_ranked _ _ _ (nat_cmp m n) (ranked m n _ refl)
    (λ is lt. less (suc m) (suc n) (omega arith) ∙ sym is)
    (λ is eq. equal (suc m) (suc n) (omega arith) ∙ sym is)
    (λ is gt. greater (suc m) (suc n) (omega arith) ∙ sym is)

paths_by_numbers : (k : ℕ) (p q : Path) → length p ≤ k → length q ≤ k → by_numbers k 0 p q (nat_cmp (length p) (length q)) ≡ path_cmp p q
paths_by_numbers k [] [] hp hq = both_ended k 0
paths_by_numbers k [] (y ∷ q) hp hq = ap (by_numbers k 0 [] (y ∷ q)) (less 0 (suc (length q)) (omega arith)) ∙ ended_first k 0 (y ∷ q)
paths_by_numbers k (x ∷ p) [] hp hq = ap (by_numbers k 0 (x ∷ p) []) (greater (suc (length p)) 0 (omega arith)) ∙ ended_last k 0 (x ∷ p)
paths_by_numbers zero (x ∷ p) (y ∷ q) hp hq = absurd (omega arith)
paths_by_numbers (suc k) (x ∷ p) (y ∷ q) hp hq =
    ap (ordering_then (nat_cmp x y))
    (without_first k 0 x y p q (nat_cmp (suc (length p)) (suc (length q))) ∙ ap (by_numbers k 0 p q) (same_lengths (length p) (length q)) ∙ paths_by_numbers k p q (omega arith) (omega arith))

then_assoc : (a b c : Ordering) → ordering_then (ordering_then a b) c ≡ ordering_then a (ordering_then b c)
then_assoc Less b c = refl
then_assoc Equal b c = refl
then_assoc Greater b c = refl

number_bound : (p : Path) → IsPath p → (i : ℕ) → number_at p i < child_limit
number_bound p h i = elim (cases_lt i (length p)) [
  | inl lt ↦ h.numbers i 0 lt
  | inr ge ↦ let e : number_at p i ≡ 0 = get_or_past p i 0 ge in omega arith
]

paths_by_words : (p q : Path) → IsPath p → IsPath q
    → ordering_then (ordering_then (ordering_then (nat_cmp (word_at p 0) (word_at q 0)) (nat_cmp (word_at p 2) (word_at q 2))) (nat_cmp (word_at p 4) (word_at q 4))) (nat_cmp (length p) (length q)) ≡ path_cmp p q
paths_by_words p q hp hq =
    let halves = λ (i : ℕ). words_by_halves (number_at p i) (number_at p (i + 1)) (number_at q i) (number_at q (i + 1)) (number_bound p hp (i + 1)) (number_bound q hq (i + 1)) in
    let o = λ (i : ℕ). nat_cmp (number_at p i) (number_at q i) in
    let last = nat_cmp (length p) (length q) in
    (λ i. ordering_then (ordering_then (ordering_then (halves 0 i) (halves 2 i)) (halves 4 i)) last)
    ∙ then_assoc (ordering_then (ordering_then (o 0) (o 1)) (ordering_then (o 2) (o 3))) (ordering_then (o 4) (o 5)) last
    ∙ then_assoc (ordering_then (o 0) (o 1)) (ordering_then (o 2) (o 3)) (ordering_then (ordering_then (o 4) (o 5)) last)
    ∙ then_assoc (o 0) (o 1) (ordering_then (ordering_then (o 2) (o 3)) (ordering_then (ordering_then (o 4) (o 5)) last))
    ∙ ap (λ t. ordering_then (o 0) (ordering_then (o 1) t)) (then_assoc (o 2) (o 3) (ordering_then (ordering_then (o 4) (o 5)) last))
    ∙ ap (λ t. ordering_then (o 0) (ordering_then (o 1) (ordering_then (o 2) (ordering_then (o 3) t)))) (then_assoc (o 4) (o 5) last)
    ∙ paths_by_numbers 6 p q hp.levels hq.levels

-- the later words decide if the first ones are the same
pub paths_by_later_words : (p q : Path) → IsPath p → IsPath q → word_at p 0 ≡ word_at q 0
    → ordering_then (ordering_then (nat_cmp (word_at p 2) (word_at q 2)) (nat_cmp (word_at p 4) (word_at q 4))) (nat_cmp (length p) (length q)) ≡ path_cmp p q
paths_by_later_words p q hp hq same =
    ap (λ first. ordering_then (ordering_then (ordering_then first (nat_cmp (word_at p 2) (word_at q 2))) (nat_cmp (word_at p 4) (word_at q 4))) (nat_cmp (length p) (length q))) (sym (equal _ _ same))
    ∙ paths_by_words p q hp hq

both_equal : (a b : Ordering) → (is_eq a && is_eq b) ≡ is_eq (ordering_then a b)
both_equal Less b = refl
both_equal Equal b = refl
both_equal Greater b = refl

-- paths are the same if their later words and their lengths are, where the first two numbers are
pub same_by_later_words : (p q : Path) → IsPath p → IsPath q → number_at p 0 ≡ number_at q 0 → number_at p 1 ≡ number_at q 1
    → ((nat_eq (word_at p 2) (word_at q 2) && nat_eq (word_at p 4) (word_at q 4)) && nat_eq (length p) (length q)) ≡ pointwise nat_eq p q
same_by_later_words p q hp hq zeroth first =
    let second = nat_cmp (word_at p 2) (word_at q 2) in
    let third = nat_cmp (word_at p 4) (word_at q 4) in
    let last = nat_cmp (length p) (length q) in
    (λ i. (unsigned_ties (word_at p 2) (word_at q 2) i && unsigned_ties (word_at p 4) (word_at q 4) i) && unsigned_ties (length p) (length q) i)
    ∙ ap (λ both. both && is_eq last) (both_equal second third)
    ∙ both_equal (ordering_then second third) last
    ∙ ap is_eq (paths_by_later_words p q hp hq (λ i. word_of (zeroth i) (first i)))
    ∙ sym (texts_ties p q)
