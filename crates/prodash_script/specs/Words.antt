-- What the words of event lines name.
use Rattle.std.specs.Prelude.{ℕ, ◌-◌, ◌^◌, Bool, List, [], ◌∷◌, length, take, drop, Option, Some, None, ◌&&◌, nat_eq, nat_le, nat_lt, bytes_eq, if◌then◌else◌}
use Rattle.std.specs.Borrow.{Bor}
use Rattle.std.specs.List.{starts_with, ends_with}
use Rattle.std.specs.Str.{all_ascii_digits}
use Rattle.std.specs.Str.Parse.{digits_value}
use Rattle.prodash_base.specs.declared.unit.kind.Kind.{Kind}
use Rattle.prodash_base.specs.declared.unit.kind.Kind.TheVariants.{Label, Bytes, Duration, Human, Range, Scaled}
use Rattle.prodash_base.specs.declared.unit.units.Unit.{Unit}

-- what a reader makes of words: a value, or nothing if they are not such
abbrev pub Reader : Type 0 → Type 0
Reader A = List ℕ → Option A

-- the text after a prefix, if there is this prefix
abbrev pub after_prefix : List ℕ → Reader (List ℕ)
after_prefix prefix text =
    if starts_with nat_eq text prefix then Some (drop (length prefix) text) else None

-- the text before a suffix, if there is this suffix
abbrev pub before_suffix : List ℕ → Reader (List ℕ)
before_suffix suffix text =
    if ends_with nat_eq text suffix then Some (take (length text - length suffix) text) else None

-- whether a word is 1 to 20 decimal digits
abbrev pub is_number : List ℕ → Bool
is_number word = nat_le 1 (length word) && nat_le (length word) 20 && all_ascii_digits word

-- the number of 1 to 20 decimal digits, if it fits in 64 bits
abbrev pub number_of : List ℕ → Option ℕ
number_of word =
    if is_number word && nat_lt (digits_value 10 word) (2 ^ 64)
    then Some (digits_value 10 word) else None

-- what a table has for a word, if the word is in it
abbrev pub lookup : {A : Type 0} → List (List ℕ × A) → List ℕ → Option A
lookup [] word = None
lookup (entry ∷ table) word =
    if bytes_eq word entry.0 then Some entry.1 else lookup table word

-- a reference to a text, of which nothing but the text counts
abbrev pub ref_to : List ℕ → Bor (List ℕ)
ref_to text = record { ref_ptr = (0, 0); now = text }

-- a kind of unit, wherever its name is stored; a scaled one, which no word names, as it is
abbrev pub plain_kind : Kind → Kind
plain_kind (Label name) = Label (ref_to name.now)
plain_kind (Human human) =
    Human (record { name = ref_to human.name.now; formatter = human.formatter })
plain_kind (Range range) = Range (record { name = ref_to range.name.now })
plain_kind (Bytes bytes) = Bytes bytes
plain_kind (Duration duration) = Duration duration
plain_kind (Scaled scaled) = Scaled scaled

-- a unit, wherever its name is stored
abbrev pub plain_unit : Unit → Unit
plain_unit unit = record { kind = plain_kind unit.kind; mode = unit.mode }
