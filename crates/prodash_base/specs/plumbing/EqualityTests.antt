-- Tests that are true exactly of equal values.
--     numbers, texts, lists, options, pairs      the tests of these types
--     by_parts      the test of a record, from that of the tuple of its fields
--     by_cases      a test that is written by cases, as that of an enum
--     equivalence, exact      what such a test gives to `PartialEq`
use Rattle.std.proofs.Common.{◌≡◌, ◌↔◌, Bool, true, nat_eq, Option, Some, None, IsTrue, refl, ap, sym, ◌∙◌, ◌&&◌}
use Rattle.std.proofs.lemmas.Bool.{and_parts}
use Rattle.std.specs.Bool.{Decides}
use Rattle.std.specs.Cmp.{IsEquivalence, decided, unsigned_Decides}
use Rattle.std.specs.Cmp.Lexicographic.{pointwise, pointwise_decides, bytes_decides}
use Rattle.std.specs.Option.{option_eq}

-- a test that is true of equal values, and of no others
pub record IsEqualityTest {X : Type 0} (same : X → X → Bool) : Type 0 where
  pub decides : (x y : X) → Decides (same x y) (x ≡ y)

module _ {X : Type 0} {same : X → X → Bool} (test : IsEqualityTest same) where
  -- the values that the test finds equal
  pub sound : (x y : X) → same x y ≡ true → x ≡ y
  sound x y = (test.decides x y).0

  -- each value and itself
  pub itself : (x : X) → same x x ≡ true
  itself x = (test.decides x x).1 refl

  -- the law of `PartialEq` and `Eq`
  pub equivalence : IsEquivalence same
  equivalence = decided same test.decides

  -- the result of a call that computes the test
  pub exact : (result : Bool) (x y : X) → result ≡ same x y → IsTrue result ↔ (x ≡ y)
  exact result x y is = (λ yes. sound x y (sym is ∙ yes), λ equal. is ∙ (test.decides x y).1 equal)

-- a test of which both directions are known
pub by_cases : {X : Type 0} {same : X → X → Bool}
    → ((x y : X) → same x y ≡ true → x ≡ y) → ((x : X) → same x x ≡ true) → IsEqualityTest same
by_cases {X} {same} apart alike = record { decides = λ x y. (apart x y, λ equal. ap (same x) (sym equal) ∙ alike x) }

pub numbers : IsEqualityTest nat_eq
numbers = record { decides = unsigned_Decides }

pub texts : IsEqualityTest (pointwise nat_eq)
texts = record { decides = bytes_decides }

module _ {X : Type 0} {same : X → X → Bool} (test : IsEqualityTest same) where
  pub lists : IsEqualityTest (pointwise same)
  lists = record { decides = pointwise_decides test.decides }

  option_sound : (x y : Option X) → option_eq same x y ≡ true → x ≡ y
  option_sound None None h = refl
  option_sound (Some x) (Some y) h = ap Some (sound test x y h)
  option_sound _ _ h = cc

  option_itself : (x : Option X) → option_eq same x x ≡ true
  option_itself None = refl
  option_itself (Some x) = itself test x

  pub options : IsEqualityTest (option_eq same)
  options = by_cases option_sound option_itself

-- the test of pairs, both of whose parts must be equal
abbrev pub same_pair : {X Y : Type 0} → (X → X → Bool) → (Y → Y → Bool) → X × Y → X × Y → Bool
same_pair same also p q = same p.0 q.0 && also p.1 q.1

module _ {X Y : Type 0} {same : X → X → Bool} {also : Y → Y → Bool} (first : IsEqualityTest same) (second : IsEqualityTest also) where
  pair_sound : (p q : X × Y) → same_pair same also p q ≡ true → p ≡ q
  pair_sound p q h =
      let parts = and_parts (same p.0 q.0) (also p.1 q.1) h in
      λ i. (sound first p.0 q.0 parts.0 i, sound second p.1 q.1 parts.1 i)

  pub pairs : IsEqualityTest (same_pair same also)
  pairs = by_cases pair_sound (λ p i. itself first p.0 i && itself second p.1 i)

-- the test of values by their parts, from which `join` makes each value again
pub by_parts : {X Y : Type 0} {same : Y → Y → Bool} (parts : X → Y) (join : Y → X)
    → ((x : X) → join (parts x) ≡ x) → IsEqualityTest same → IsEqualityTest (λ x y. same (parts x) (parts y))
by_parts parts join again test =
    by_cases (λ x y h. sym (again x) ∙ ap join (sound test (parts x) (parts y) h) ∙ again y) (λ x. itself test (parts x))
