-- The words of units, and the units that compare as equal: those that are the same wherever their
-- names are stored.
use Rattle.std.proofs.Common.{rules, tests, ◌≡◌, ◌∙◌, ◌-◌, ℕ, Bool, true, false, List, [], ◌++◌, length, take, drop, take-append-drop, refl, sym, ap, subst, codes, nat_eq, inl, inr}
use Rattle.std.specs.Prelude.{bytes_eq, IfOk, MatchOption, Option, Some, None, Result, Ok, Err, String, string_bytes, ◌⊎◌, option_map, if◌then◌else◌}
use Rattle.std.specs.List.{starts_with, ends_with}
use Rattle.std.specs.Option.{option_map_or}
use Rattle.std.proofs.lemmas.Slice.Eq.{bytes_eq-Decides}
use Rattle.std.proofs.lemmas.Bool.Decides.{nat_tests}
use Rattle.prodash_base.specs.declared.unit.display.Location.TheVariants.{BeforeValue}
use Rattle.prodash_base.specs.declared.unit.display.Mode.{Mode}
use Rattle.prodash_base.specs.declared.unit.kind.Kind.{Kind}
use Rattle.prodash_base.specs.declared.unit.kind.Kind.TheVariants.{Label, Bytes, Duration, Human, Range, Scaled}
use Rattle.prodash_base.specs.declared.unit.units.Unit.{Unit}
use Rattle.prodash_base.specs.contracts.unit.kind.KindPartialEq.TheImpl as kind
use Rattle.prodash_base.specs.contracts.unit.units.UnitPartialEq.TheImpl as unit
use Rattle.prodash_script.specs.Lines.{GivesLine}
use Rattle.prodash_script.specs.Units.{NamesUnit, is_unit_name, kind_in, name_and_mode, name_in, showing, stripped_by, unit_in}
use Rattle.prodash_script.specs.plumbing.Lines.{HasNoWordWith}
use Rattle.prodash_script.specs.Words.{after_prefix, before_suffix, plain_kind, plain_unit}

abbrev is_scaled : Kind → Bool
is_scaled (Scaled scaled) = true
is_scaled (Label name) = false
is_scaled (Human human) = false
is_scaled (Range range) = false
is_scaled (Bytes bytes) = false
is_scaled (Duration duration) = false

-- no name is that of a scaled kind
never_scaled : (name : List ℕ) (k : Kind) → plain_kind k ≡ kind_in name → is_scaled k ≡ false
never_scaled name (Scaled scaled) is =
    let named : is_scaled (kind_in name) ≡ false = search (rules, tests) in ap is_scaled is ∙ named
never_scaled name (Label label) is = refl
never_scaled name (Human human) is = refl
never_scaled name (Range range) is = refl
never_scaled name (Bytes bytes) is = refl
never_scaled name (Duration duration) is = refl

if_same_kind : (k l : Kind) → is_scaled k ≡ false → kind.ghosts.eq k l ≡ true → plain_kind k ≡ plain_kind l
if_same_kind k l unscaled = search (rules, bytes_eq-Decides, nat_tests)

same_if_kind : (k l : Kind) → is_scaled k ≡ false → plain_kind k ≡ plain_kind l → kind.ghosts.eq k l ≡ true
same_if_kind k l unscaled = search (rules, bytes_eq-Decides, nat_tests)

if_same_unit : (u v : Unit) → is_scaled u.kind ≡ false → unit.ghosts.eq u v ≡ true → plain_unit u ≡ plain_unit v
if_same_unit u v unscaled = search (rules, if_same_kind, nat_tests)

same_if_unit : (u v : Unit) → is_scaled u.kind ≡ false → plain_unit u ≡ plain_unit v → unit.ghosts.eq u v ≡ true
same_if_unit u v unscaled = search (rules, same_if_kind, nat_tests)

-- what is before or after signs

pub begins : (prefix word name : List ℕ) → (b : Bool) → starts_with nat_eq word prefix ≡ b → (if b then Some (drop (length prefix) word) else None) ≡ Some name → word ≡ prefix ++ name
begins prefix word name false is found = search rules
begins prefix word name true is found =
    let same = (bytes_eq-Decides prefix (take (length prefix) word)).0 is in
    let rest : drop (length prefix) word ≡ name = search rules in
    sym (take-append-drop (length prefix) word) ∙ ap (λ l. l ++ drop (length prefix) word) (sym same) ∙ ap (λ l. prefix ++ l) rest

ends : (suffix word name : List ℕ) → (b : Bool) → ends_with nat_eq word suffix ≡ b → (if b then Some (take (length word - length suffix) word) else None) ≡ Some name → word ≡ name ++ suffix
ends suffix word name false is found = search rules
ends suffix word name true is found =
    let size = length word - length suffix in
    let same = (bytes_eq-Decides suffix (drop size word)).0 is in
    let front : take size word ≡ name = search rules in
    sym (take-append-drop size word) ∙ ap (λ l. take size word ++ l) (sym same) ∙ ap (λ l. l ++ suffix) front

-- a word that is a name with signs before it or after it
abbrev WithSigns : List ℕ → List ℕ → List ℕ → Type 0
WithSigns signs word name = (word ≡ signs ++ name) ⊎ (word ≡ name ++ signs)

abbrev Spells : List ℕ → List ℕ → Type 0
Spells word name =
    WithSigns (codes "%/s") word name ⊎ WithSigns (codes "%") word name
    ⊎ WithSigns (codes "/s") word name ⊎ (word ≡ name)

one_of : (a b c : Option (List ℕ)) → (found : List ℕ × Mode) → option_map_or (λ name. Some (name, showing true true)) a (option_map_or (λ name. Some (name, showing true false)) b (option_map (λ name. (name, showing false true)) c)) ≡ Some found → (a ≡ Some found.0) ⊎ (b ≡ Some found.0) ⊎ (c ≡ Some found.0)
one_of (Some x) b c found h = let same : (x, showing true true) ≡ found = search rules in inl (ap (λ f. Some f.0) same)
one_of None (Some x) c found h = let same : (x, showing true false) ≡ found = search rules in inr (inl (ap (λ f. Some f.0) same))
one_of None None (Some x) found h = let same : (x, showing false true) ≡ found = search rules in inr (inr (ap (λ f. Some f.0) same))
one_of None None None found h = search rules

spelled : (word : List ℕ) → (a b : Option (List ℕ × Mode)) → stripped_by after_prefix word ≡ a → stripped_by before_suffix word ≡ b → Spells word (option_map_or {U = List ℕ × Option Mode} (λ found. (found.0, Some (record found.1 { location = BeforeValue }))) a (option_map_or (λ found. (found.0, Some found.1)) b (word, None))).0
spelled word (Some x) b before after = elim (one_of _ _ _ x before) [
  | inl h ↦ inl (inl (begins (codes "%/s") word x.0 _ refl h))
  | inr (inl h) ↦ inr (inl (inl (begins (codes "%") word x.0 _ refl h)))
  | inr (inr h) ↦ inr (inr (inl (inl (begins (codes "/s") word x.0 _ refl h))))
]
spelled word None (Some x) before after = elim (one_of _ _ _ x after) [
  | inl h ↦ inl (inr (ends (codes "%/s") word x.0 _ refl h))
  | inr (inl h) ↦ inr (inl (inr (ends (codes "%") word x.0 _ refl h)))
  | inr (inr h) ↦ inr (inr (inl (inr (ends (codes "/s") word x.0 _ refl h))))
]
spelled word None None before after = inr (inr (inr refl))

-- names of kinds

pub name_of_kind : (name : List ℕ) → name_in (kind_in name) ≡ name
name_of_kind name = search (rules, tests, bytes_eq-Decides)

name_anywhere : (k : Kind) → name_in (plain_kind k) ≡ name_in k
name_anywhere (Label name) = refl
name_anywhere (Human human) = refl
name_anywhere (Range range) = refl
name_anywhere (Bytes bytes) = refl
name_anywhere (Duration duration) = refl
name_anywhere (Scaled scaled) = refl

kind_by : (b c : Bool) → (kind : Kind) → (mode : Option Mode) → (u : Unit) → (if b then Some None else if c then Some (Some (record { kind = kind; mode = mode })) else None) ≡ Some (Some u) → kind ≡ u.kind
kind_by true c k mode u h = search rules
kind_by false true k mode u h = search rules
kind_by false false k mode u h = search rules

-- the name in a word is that of its unit's kind
pub kind_of_word : (word : List ℕ) → (u : Unit) → NamesUnit (Some u) word → kind_in (name_and_mode word).0 ≡ plain_kind u.kind
kind_of_word word u names = kind_by _ _ _ _ (plain_unit u) names

name_of_word : (word : List ℕ) → (u : Unit) → NamesUnit (Some u) word → (name_and_mode word).0 ≡ name_in u.kind
name_of_word word u names = sym (name_of_kind (name_and_mode word).0) ∙ ap name_in (kind_of_word word u names) ∙ name_anywhere u.kind

absent : (signs word : List ℕ) → (u : Unit) → HasNoWordWith signs u → NamesUnit (Some u) word → ¬ WithSigns signs word (name_in u.kind)
absent signs word u lacks names = λ auto. elim auto [
  | inl e ↦ lacks.0 (subst (NamesUnit (Some u)) e names)
  | inr e ↦ lacks.1 (subst (NamesUnit (Some u)) e names)
]

-- a unit that no signs make a word of has none
pub no_word : (u : Unit) → HasNoWordWith (codes "%/s") u → HasNoWordWith (codes "%") u → HasNoWordWith (codes "/s") u → HasNoWordWith [] u → (word : List ℕ) → ¬ NamesUnit (Some u) word
no_word u both percentage throughput neither word names =
    let spells : Spells word (name_and_mode word).0 = spelled word _ _ refl refl in
    let same = name_of_word word u names in
    elim (subst (Spells word) same spells) [
      | inl h ↦ absent (codes "%/s") word u both names h
      | inr (inl h) ↦ absent (codes "%") word u percentage names h
      | inr (inr (inl h)) ↦ absent (codes "/s") word u throughput names h
      | inr (inr (inr e)) ↦ neither.0 (subst (NamesUnit (Some u)) e names)
    ]

-- a unit that is made of what a word says names another exactly if both are the same
pub named : (word : List ℕ) → (n u : Unit) → (r : Bool) → bytes_eq word (codes "-") ≡ false → is_unit_name (name_and_mode word).0 ≡ true → plain_kind n.kind ≡ kind_in (name_and_mode word).0 → n.mode ≡ (name_and_mode word).1 → r ≡ unit.ghosts.eq n u → (r ≡ true → NamesUnit (Some u) word) × (NamesUnit (Some u) word → r ≡ true)
named word n u r dash is kind mode same =
    let unscaled = never_scaled (name_and_mode word).0 n.kind kind in
    let reads : unit_in word ≡ Some (Some (plain_unit n)) = rw (dash, is, kind, mode) in (
      λ t. reads ∙ ap (λ v. Some (Some v)) (if_same_unit n u unscaled (sym same ∙ t)),
      λ names. let both : Some (Some (plain_unit n)) ≡ Some (Some (plain_unit u)) = sym reads ∙ names in same ∙ same_if_unit n u unscaled (search rules),
    )

-- the word of a unit, once no signs but none have made one
pub word_of : {Z E : Type 0} → (u : Unit) → (r : Result (Option (String Z)) E) → HasNoWordWith (codes "%/s") u → HasNoWordWith (codes "%") u → HasNoWordWith (codes "/s") u → IfOk r (λ found. MatchOption found (HasNoWordWith [] u) (λ word. NamesUnit (Some u) (string_bytes word))) → GivesLine r (NamesUnit (Some u))
word_of u (Ok None) both percentage throughput neither = no_word u both percentage throughput neither
word_of u (Ok (Some word)) both percentage throughput names = names
word_of u (Err e) both percentage throughput h = tt
