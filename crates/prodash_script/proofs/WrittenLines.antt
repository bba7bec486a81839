-- Lines as they are written, and the events as which they are read.
use Rattle.std.proofs.Common.{◌≡◌, append_assoc, ◌∙◌, ◌+◌, ℕ, ◌<◌, ◌^◌, Bool, true, false, not, nat_eq, nat_lt, List, [], ◌∷◌, ◌++◌, length, take, drop, refl, ap, arith, length-append}
use Rattle.std.proofs.Math.Seq.{take-append_seam, drop-append-add}
use Rattle.std.specs.Prelude.{Option, Some, None, IfSome, Result, Ok, Err, IfOk, String, string_bytes, ⊤, codes, option_map, bytes_eq}
use Rattle.std.specs.Fmt.{decimal}
use Rattle.std.specs.List.{list_all, position_or_len, before_first, after_first}
use Rattle.std.specs.Str.{all_ascii_digits}
use Rattle.std.specs.Str.Parse.{digits_value}
use Rattle.std.proofs.lemmas.Bool.Decides.{nat_tests}
use Rattle.std.proofs.lemmas.Fmt.{digits_decimal, digits_value-decimal, decimal_nonempty, length-decimal-le}
use Rattle.prodash_base.specs.declared.messages.MessageLevel.TheVariants.{Info, Success, Failure}
use Rattle.prodash_core.specs.declared.tree.event.Event.{Event}
use Rattle.prodash_core.specs.declared.tree.event.Event.TheVariants.{AddChild, Drop, Init, SetName, SetMax, Set, IncBy, Blocked, Halted, Running, Message, DropRoot, Tick, Resize, Quit}
use Rattle.prodash_script.specs.Units.{unit_in}
use Rattle.prodash_script.specs.Words.{Reader, is_number, number_of, plain_unit}
use Rattle.prodash_script.specs.Lines.{spaced, bound_word, GivesLine, IsLineOf}
use Rattle.prodash_script.specs.Reading.{text_of, cut_at_space, first_of, then_read, read_line, read_by, all_events, bound_of, small_of, IsReadAs}
use Rattle.prodash_script.proofs.Numerals.{own, fits}

-- words without a space

abbrev is_space : ℕ → Bool
is_space b = nat_eq b 32

abbrev is_word : List ℕ → Bool
is_word word = list_all (λ b. not (is_space b)) word

space_after : (word rest : List ℕ) → is_word word ≡ true → position_or_len is_space (spaced word rest) ≡ length word
space_after [] rest h = refl
space_after (c ∷ word) rest h =
    let here : nat_eq c 32 ≡ false = grind (arith, nat_tests) in
    let later : is_word word ≡ true = grind (arith, nat_tests) in
    rw (here, space_after word rest later) (omega arith)

cut_after : (word rest : List ℕ) → is_word word ≡ true → cut_at_space (spaced word rest) ≡ Some (word, rest)
unfolding cut_at_space
cut_after word rest h =
    let place = space_after word rest h in
    let whole : spaced word rest ≡ word ++ 32 ∷ rest = append_assoc word (codes " ") rest in
    let front : before_first is_space (spaced word rest) ≡ word = ap (λ k. take k (spaced word rest)) place ∙ ap (take (length word)) whole ∙ take-append_seam word (32 ∷ rest) in
    let back : after_first is_space (spaced word rest) ≡ rest = ap (λ k. drop (k + 1) (spaced word rest)) place ∙ ap (drop (length word + 1)) whole ∙ drop-append-add word (32 ∷ rest) 1 in
    let within : nat_lt (length word) (length (spaced word rest)) ≡ true = grind (arith, nat_tests, length-append {A = ℕ}) in
    rw (front, back, place, within)

first_read : {A : Type 0} → (read : Reader A) → (word rest : List ℕ) → is_word word ≡ true → first_of read (spaced word rest) ≡ option_map (λ x. (x, rest)) (read word)
unfolding first_of
first_read read word rest h = rw (cut_after word rest h)

both_read : {A B : Type 0} → (first : Reader A) → (second : Reader B) → (word rest : List ℕ) → (a : A) → (b : B) → is_word word ≡ true → first word ≡ Some a → second rest ≡ Some b → then_read first second (spaced word rest) ≡ Some (a, b)
both_read first second word rest a b h before after = rw (first_read first word rest h, before, after)

-- numbers

digits_word : (word : List ℕ) → all_ascii_digits word ≡ true → is_word word ≡ true
digits_word [] h = refl
digits_word (c ∷ word) h =
    let here : nat_eq c 32 ≡ false = grind (arith, nat_tests) in
    let later : all_ascii_digits word ≡ true = grind (arith, nat_tests) in
    rw (here, digits_word word later)

number_word : (n : ℕ) → n < 2 ^ 64 → is_word (decimal n) ≡ true
number_word n h = digits_word (decimal n) (digits_decimal own n h)

number_read : (n : ℕ) → n < 2 ^ 64 → number_of (decimal n) ≡ Some n
number_read n h =
    let digits = digits_decimal own n h in
    let value = digits_value-decimal own n h in
    let some = decimal_nonempty n h in
    let short = length-decimal-le 20 n (omega arith) (omega arith) h in
    let is : is_number (decimal n) ≡ true = grind (arith, nat_tests) in
    let small : digits_value 10 (decimal n) < 2 ^ 64 = omega arith in
    let read = fits (decimal n) is small in
    cc

small_read : (n : ℕ) → n < 2 ^ 16 → small_of (decimal n) ≡ Some n
small_read n h =
    let fits : nat_lt n (2 ^ 16) ≡ true = grind (arith, nat_tests) in
    rw (number_read n (omega arith), fits)

no_dash : (word : List ℕ) → all_ascii_digits word ≡ true → bytes_eq word (codes "-") ≡ false
no_dash [] h = refl
no_dash (c ∷ word) h = grind (arith, nat_tests)

-- the event of a first word without a space
line_read : (word rest : List ℕ) → is_word word ≡ true → read_line number_of number_of (spaced word rest) ≡ read_by (all_events number_of number_of) word rest
line_read word rest h = rw (cut_after word rest h)

-- numbers that fit in the bits that an event has for them
abbrev pub NumbersFit : Event → Type 0
NumbersFit (AddChild parent name id) = parent < 2 ^ 64
NumbersFit (Drop item) = item < 2 ^ 64
NumbersFit (Init item max unit) = (item < 2 ^ 64) × IfSome max (λ n. n < 2 ^ 64)
NumbersFit (SetName item name) = item < 2 ^ 64
NumbersFit (SetMax item max) = (item < 2 ^ 64) × IfSome max (λ n. n < 2 ^ 64)
NumbersFit (Set item step) = (item < 2 ^ 64) × (step < 2 ^ 64)
NumbersFit (IncBy item step) = (item < 2 ^ 64) × (step < 2 ^ 64)
NumbersFit (Blocked item reason eta) = item < 2 ^ 64
NumbersFit (Halted item reason eta) = item < 2 ^ 64
NumbersFit (Running item) = item < 2 ^ 64
NumbersFit (Message item at level text) = (item < 2 ^ 64) × (at < 2 ^ 64)
NumbersFit (Tick at show) = at < 2 ^ 64
NumbersFit (Resize at show columns rows) = (at < 2 ^ 64) × (columns < 2 ^ 16) × (rows < 2 ^ 16)
NumbersFit (Quit at) = at < 2 ^ 64
NumbersFit _ = ⊤

bound_read : (max : Option ℕ) → IfSome max (λ n. n < 2 ^ 64) → bound_of (bound_word max) ≡ Some max
bound_read None h = refl
bound_read (Some n) h = rw (no_dash (decimal n) (digits_decimal own n h), number_read n h)

bound_is_word : (max : Option ℕ) → IfSome max (λ n. n < 2 ^ 64) → is_word (bound_word max) ≡ true
bound_is_word None h = refl
bound_is_word (Some n) h = number_word n h

-- a number and what comes after it
after_number : {B : Type 0} → (second : Reader B) → (n : ℕ) → (rest : List ℕ) → (b : B) → n < 2 ^ 64 → second rest ≡ Some b → then_read number_of second (spaced (decimal n) rest) ≡ Some (n, b)
after_number second n rest b h after = both_read number_of second (decimal n) rest n b (number_word n h) (number_read n h) after

abbrev said : ℕ → ℕ → List ℕ → List ℕ
said item at text = spaced (decimal item) (spaced (decimal at) text)

message_read : (item at : ℕ) → (text : List ℕ) → item < 2 ^ 64 → at < 2 ^ 64 → then_read number_of (then_read number_of text_of) (said item at text) ≡ Some (item, (at, text))
message_read item at text h k = after_number (then_read number_of text_of) item (spaced (decimal at) text) (at, text) h (after_number text_of at text text k refl)

no_cut : cut_at_space (codes "droproot") ≡ None
unfolding cut_at_space
no_cut = refl

written : (event : Event) → (line : List ℕ) → NumbersFit event → IsLineOf event line → IsReadAs event line
written (AddChild parent name id) line h is =
    let arguments = after_number text_of parent name name h refl in
    rw (is.0, line_read (codes "add") (spaced (decimal parent) name) refl, arguments, is.2)
written (Drop item) line h is = rw (is, line_read (codes "drop") (decimal item) refl, number_read item h)
written (Init item max unit) line h is =
    let word = is.0 in
    let limit = both_read bound_of unit_in (bound_word max) word max (option_map plain_unit unit) (bound_is_word max h.1) (bound_read max h.1) is.2 in
    let arguments = after_number (then_read bound_of unit_in) item (spaced (bound_word max) word) (max, option_map plain_unit unit) h.0 limit in
    rw (is.1, line_read (codes "init") (spaced (decimal item) (spaced (bound_word max) word)) refl, arguments)
written (SetName item name) line h is =
    let arguments = after_number text_of item name name h refl in
    rw (is.0, line_read (codes "name") (spaced (decimal item) name) refl, arguments)
written (SetMax item max) line h is =
    let arguments = after_number bound_of item (bound_word max) max h.0 (bound_read max h.1) in
    rw (is, line_read (codes "max") (spaced (decimal item) (bound_word max)) refl, arguments)
written (Set item step) line h is =
    let arguments = after_number number_of item (decimal step) step h.0 (number_read step h.1) in
    rw (is, line_read (codes "set") (spaced (decimal item) (decimal step)) refl, arguments)
written (IncBy item step) line h is =
    let arguments = after_number number_of item (decimal step) step h.0 (number_read step h.1) in
    rw (is, line_read (codes "inc") (spaced (decimal item) (decimal step)) refl, arguments)
written (Blocked item reason eta) line h is =
    rw (is.0, line_read (codes "blocked") (decimal item) refl, number_read item h, is.1, is.2)
written (Halted item reason eta) line h is =
    rw (is.0, line_read (codes "halted") (decimal item) refl, number_read item h, is.1, is.2)
written (Running item) line h is = rw (is, line_read (codes "running") (decimal item) refl, number_read item h)
written (Message item at Info text) line h is = rw (is.0, line_read (codes "info") (said item at text) refl, message_read item at text h.0 h.1)
written (Message item at Success text) line h is = rw (is.0, line_read (codes "done") (said item at text) refl, message_read item at text h.0 h.1)
written (Message item at Failure text) line h is = rw (is.0, line_read (codes "fail") (said item at text) refl, message_read item at text h.0 h.1)
written DropRoot line h is = rw (is, no_cut)
written (Tick at true) line h is = rw (is, line_read (codes "tick") (decimal at) refl, number_read at h)
written (Tick at false) line h is = rw (is, line_read (codes "hold") (decimal at) refl, number_read at h)
written (Resize at show columns rows) line h is =
    let size = both_read small_of small_of (decimal columns) (decimal rows) columns rows (number_word columns (omega arith)) (small_read columns h.1) (small_read rows h.2) in
    let arguments = after_number (then_read small_of small_of) at (spaced (decimal columns) (decimal rows)) (columns, rows) h.0 size in
    rw (is.0, line_read (codes "resize") (spaced (decimal at) (spaced (decimal columns) (decimal rows))) refl, arguments, is.1)
written (Quit at) line h is = rw (is, line_read (codes "quit") (decimal at) refl, number_read at h)
written _ line h is = absurd is

pub read_back : {Z E : Type 0} → (event : Event) → (result : Result (Option (String Z)) E) → NumbersFit event → GivesLine result (IsLineOf event) → IfOk result (λ found. IfSome found (λ line. IsReadAs event (string_bytes line)))
read_back event (Ok (Some line)) h gives = written event (string_bytes line) h gives
read_back event (Ok None) h gives = tt
read_back event (Err e) h gives = tt
