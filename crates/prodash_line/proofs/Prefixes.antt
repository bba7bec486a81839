-- The longest prefix of a text that fits some columns.
use Rattle.std.proofs.Common.{◌≡◌, ℕ, zero, suc, ◌+◌, ◌-◌, ◌<◌, ◌≤◌, Bool, true, false, cond, nat_le, List, [], ◌∷◌, ◌++◌, length, take, drop, replicate, chars, refl, sym, ap, ◌∙◌, arith, append-nil, subst, length-append, ⊎_elim}
use Rattle.std.specs.Prelude.{min}
use Rattle.std.specs.Str.{IsUtf8}
use Rattle.std.specs.Char.{encode_utf8}
use Rattle.std.proofs.lemmas.Bool.{leb-true, leb-false, le-leb, lt-leb, cases_lt}
use Rattle.std.proofs.lemmas.Str.{IsUtf8-drop, IsCharBoundary-from_take, chars_past_char, chars-append, chars-nil}
use Rattle.std.proofs.lemmas.List.{length-take, take_at, drop_at, take-take, length-replicate}
use Rattle.unicode_width.specs.Width.{str_width}
use Rattle.prodash_line.specs.Lines.{longest_prefix_of, longest_prefix}
use Rattle.prodash_line.specs.plumbing.Writing.{is_printable}
use Rattle.prodash_line.proofs.Columns.{chars-printable, width-printable, width-indented, width-spaces, printable-take}

pub width-none : str_width false [] ≡ 0
unfolding str_width
width-none = refl

within_step : (b : Bool) (columns : ℕ) (text others : List ℕ) → nat_le (str_width false text) columns ≡ b → str_width false others ≤ columns → str_width false (cond b text others) ≤ columns
within_step true columns text others e h = leb-true (str_width false text) columns e
within_step false columns text others e h = h

of_within : (columns : ℕ) (text : List ℕ) (k : ℕ) → str_width false (longest_prefix_of columns text k) ≤ columns
of_within columns text zero = omega (arith, width-none)
of_within columns text (suc k) = within_step (nat_le (str_width false (take (suc k) text)) columns) columns (take (suc k) text) (longest_prefix_of columns text k) refl (of_within columns text k)

-- it fits
pub prefix_within : (columns : ℕ) (text : List ℕ) → str_width false (longest_prefix columns text) ≤ columns
unfolding longest_prefix
prefix_within columns text = of_within columns text (length text)

-- ---- printable ASCII characters

width-take : (k : ℕ) (text : List ℕ) → is_printable text ≡ true → k ≤ length text → str_width false (take k text) ≡ k
width-take k text h l = width-printable (take k text) (printable-take k text h) ∙ omega (arith, length-take k text)

printable_step : (b : Bool) (columns k w : ℕ) (text others : List ℕ) → nat_le w columns ≡ b → w ≡ suc k → others ≡ take (min columns k) text
    → cond b (take (suc k) text) others ≡ take (min columns (suc k)) text
printable_step true columns k w text others e own h = ap (λ n. take n text) (let le : w ≤ columns = leb-true w columns e in let same : suc k ≡ min columns (suc k) = omega arith in same)
printable_step false columns k w text others e own h = h ∙ ap (λ n. take n text) (let lt : columns < w = leb-false w columns e in let same : min columns k ≡ min columns (suc k) = omega arith in same)

of-printable : (columns : ℕ) (text : List ℕ) (k : ℕ) → is_printable text ≡ true → k ≤ length text → longest_prefix_of columns text k ≡ take (min columns k) text
of-printable columns text zero h l = ap (λ n. take n text) (let same : 0 ≡ min columns 0 = omega arith in same)
of-printable columns text (suc k) h l =
    printable_step (nat_le (str_width false (take (suc k) text)) columns) columns k (str_width false (take (suc k) text)) text (longest_prefix_of columns text k) refl
    (width-take (suc k) text h l) (of-printable columns text k h (omega arith))

-- as many of them as there are columns
pub prefix-printable : (columns : ℕ) (text : List ℕ) → is_printable text ≡ true → longest_prefix columns text ≡ take (min columns (length text)) text
unfolding longest_prefix
prefix-printable columns text h = of-printable columns text (length text) h (omega arith)

pub prefix_sliced : (columns n : ℕ) (bytes part : List ℕ) → is_printable bytes ≡ true → n ≡ min columns (length bytes) → part ≡ take n bytes → chars part ≡ longest_prefix columns (chars bytes)
prefix_sliced columns n bytes part h e p =
    let own : is_printable part ≡ true = ap is_printable p ∙ printable-take n bytes h in
    chars-printable part own ∙ p ∙ ap (λ k. take k bytes) e ∙ sym (prefix-printable columns bytes h) ∙ ap (longest_prefix columns) (sym (chars-printable bytes h))

pub prefix-width : (columns : ℕ) (text : List ℕ) → is_printable text ≡ true → columns ≤ length text → str_width false (longest_prefix columns text) ≡ columns
prefix-width columns text h l =
    ap (str_width false) (prefix-printable columns text h) ∙ width-take (min columns (length text)) text h (omega arith) ∙ omega arith

-- ---- one character fewer after another

pub shorter : (xs ys : List ℕ) → ys ≡ take (length xs - 1) xs → length ys ≡ length xs - 1
shorter xs ys e = omega (arith, ap length e, length-take (length xs - 1) xs)

-- a prefix without its last character is a prefix
pub prefix_shorter : (text left new : List ℕ) → left ≡ take (length left) text → new ≡ take (length left - 1) left → new ≡ take (length new) text
prefix_shorter text left new e f =
    f ∙ ap (take (length left - 1)) e ∙ take-take (length left - 1) (length left) text (omega arith) ∙ ap (λ n. take n text) (sym (shorter left new f))

pub prefix_init : (columns : ℕ) (text : List ℕ) → longest_prefix_of columns text (length text) ≡ longest_prefix columns text
unfolding longest_prefix
prefix_init columns text = refl

pub prefix_fewer : (columns : ℕ) (text left : List ℕ) → left ≡ take (length left) text → columns < str_width false left
    → (0 < length left) × (longest_prefix_of columns text (length left) ≡ longest_prefix_of columns text (length left - 1))
prefix_fewer columns text [] e h = absurd (omega (arith, width-none))
prefix_fewer columns text (c ∷ cs) e h =
    let wide : columns < str_width false (take (suc (length cs)) text) = subst (λ (t : List ℕ). columns < str_width false t) e h in
    let test : nat_le (str_width false (take (suc (length cs)) text)) columns ≡ false = lt-leb (str_width false (take (suc (length cs)) text)) columns wide in
    (omega arith, ap (λ b. cond b (take (suc (length cs)) text) (longest_prefix_of columns text (length cs))) test ∙ ap (λ n. longest_prefix_of columns text n) (let same : length cs ≡ suc (length cs) - 1 = omega arith in same))

pub prefix_found : (columns : ℕ) (text left : List ℕ) → left ≡ take (length left) text → str_width false left ≤ columns → longest_prefix_of columns text (length left) ≡ left
prefix_found columns text [] e h = refl
prefix_found columns text (c ∷ cs) e h =
    let fits : str_width false (take (suc (length cs)) text) ≤ columns = subst (λ (t : List ℕ). str_width false t ≤ columns) e h in
    ap (λ b. cond b (take (suc (length cs)) text) (longest_prefix_of columns text (length cs))) (le-leb (str_width false (take (suc (length cs)) text)) columns fits) ∙ sym e

pub chars-last : (text rest : List ℕ) (c : ℕ) → IsUtf8 text → IsUtf8 rest → text ≡ rest ++ encode_utf8 c → chars text ≡ chars rest ++ c ∷ []
chars-last text rest c u v e =
    let prefix : take (length rest) text ≡ rest = ap (take (length rest)) e ∙ take_at rest (encode_utf8 c) (length rest) refl in
    let back : drop (length rest) text ≡ encode_utf8 c = ap (drop (length rest)) e ∙ drop_at rest (encode_utf8 c) (length rest) refl in
    let size : length rest ≤ length text = omega (arith, ap length e, length-append rest (encode_utf8 c)) in
    let last : IsUtf8 (encode_utf8 c) = subst IsUtf8 back (IsUtf8-drop text (length rest) u (IsCharBoundary-from_take text (length rest) u size (subst IsUtf8 (sym prefix) v))) in
    let one : chars (encode_utf8 c) ≡ c ∷ [] = chars_past_char (encode_utf8 c) [] c last (sym (append-nil (encode_utf8 c))) ∙ ap (λ t. c ∷ t) chars-nil in
    ap chars e ∙ chars-append rest (encode_utf8 c) v ∙ ap (λ t. chars rest ++ t) one

pub without_last : (text rest : List ℕ) (c : ℕ) → text ≡ rest ++ c ∷ [] → rest ≡ take (length text - 1) text
without_last text rest c whole =
    let count : length text - 1 ≡ length rest = omega (arith, ap length whole, length-append rest (c ∷ [])) in
    sym (take_at rest (c ∷ []) (length text - 1) (sym count)) ∙ ap (take (length text - 1)) (sym whole)

pub none_left : (text rest : List ℕ) → length text ≡ 0 → rest ≡ text → chars rest ≡ take (length (chars text) - 1) (chars text)
none_left [] rest l e = ap chars e ∙ chars-nil ∙ ap (λ t. take (length t - 1) t) (sym chars-nil)
none_left (b ∷ bs) rest l e = absurd (omega arith)

-- ---- spaces before a text

take_after : (n k : ℕ) (text : List ℕ) → take (n + k) (replicate n 32 ++ text) ≡ replicate n 32 ++ take k text
take_after zero k text = ap (λ m. take m text) (let e : 0 + k ≡ k = omega arith in e)
take_after (suc n) k text = ap (λ m. take m (replicate (suc n) 32 ++ text)) (let e : suc n + k ≡ suc (n + k) = omega arith in e) ∙ ap (λ t. 32 ∷ t) (take_after n k text)

take_spaces : (k n : ℕ) (text : List ℕ) → k ≤ n → take k (replicate n 32 ++ text) ≡ replicate k 32
take_spaces zero n text l = refl
take_spaces (suc k) zero text l = absurd (omega arith)
take_spaces (suc k) (suc n) text l = ap (λ t. 32 ∷ t) (take_spaces k n text (omega arith))

-- the prefixes that are spaces alone
of_spaces_step : (b : Bool) (columns k : ℕ) (some others : List ℕ) → nat_le (suc k) columns ≡ b → some ≡ replicate (suc k) 32 → others ≡ replicate (min k columns) 32
    → cond b some others ≡ replicate (min (suc k) columns) 32
of_spaces_step true columns k some others e s h = s ∙ ap (λ n. replicate n 32) (let le : suc k ≤ columns = leb-true (suc k) columns e in let same : suc k ≡ min (suc k) columns = omega arith in same)
of_spaces_step false columns k some others e s h = h ∙ ap (λ n. replicate n 32) (let lt : columns < suc k = leb-false (suc k) columns e in let same : min k columns ≡ min (suc k) columns = omega arith in same)

of_spaces : (columns n k : ℕ) (text : List ℕ) → k ≤ n → longest_prefix_of columns (replicate n 32 ++ text) k ≡ replicate (min k columns) 32
of_spaces columns n zero text l = ap (λ m. replicate m 32) (let same : 0 ≡ min 0 columns = omega arith in same)
of_spaces columns n (suc k) text l =
    let is = take_spaces (suc k) n text l in
    ap (λ w. cond (nat_le w columns) (take (suc k) (replicate n 32 ++ text)) (longest_prefix_of columns (replicate n 32 ++ text) k)) (ap (str_width false) is ∙ width-spaces (suc k))
    ∙ of_spaces_step (nat_le (suc k) columns) columns k (take (suc k) (replicate n 32 ++ text)) (longest_prefix_of columns (replicate n 32 ++ text) k) refl is (of_spaces columns n k text (omega arith))

-- those with a part of the text
of_after_step : (b d : Bool) (n : ℕ) (some mine others : List ℕ) → b ≡ d → some ≡ replicate n 32 ++ mine → (rest : List ℕ) → others ≡ replicate n 32 ++ rest → cond b some others ≡ replicate n 32 ++ cond d mine rest
of_after_step true true n some mine others e s rest h = s
of_after_step false false n some mine others e s rest h = h
of_after_step true false n some mine others e s rest h = cc
of_after_step false true n some mine others e s rest h = cc

le_after : (n w columns : ℕ) → n ≤ columns → nat_le (n + w) columns ≡ nat_le w (columns - n)
le_after n w columns l = ⊎_elim
    (λ (wide : columns - n < w). lt-leb (n + w) columns (omega arith) ∙ sym (lt-leb w (columns - n) wide))
    (λ (fits : w ≤ columns - n). le-leb (n + w) columns (omega arith) ∙ sym (le-leb w (columns - n) fits))
    (cases_lt (columns - n) w)

of_after : (columns n k : ℕ) (text : List ℕ) → n ≤ columns → longest_prefix_of columns (replicate n 32 ++ text) (n + k) ≡ replicate n 32 ++ longest_prefix_of (columns - n) text k
of_after columns n zero text l =
    ap (longest_prefix_of columns (replicate n 32 ++ text)) (let e : n + 0 ≡ n = omega arith in e) ∙ of_spaces columns n n text (omega arith)
    ∙ ap (λ m. replicate m 32) (let e : min n columns ≡ n = omega arith in e) ∙ sym (append-nil (replicate n 32))
of_after columns n (suc k) text l =
    let whole = replicate n 32 ++ text in
    let is : take (suc (n + k)) whole ≡ replicate n 32 ++ take (suc k) text = ap (λ m. take m whole) (let e : suc (n + k) ≡ n + suc k = omega arith in e) ∙ take_after n (suc k) text in
    let test : nat_le (str_width false (take (suc (n + k)) whole)) columns ≡ nat_le (str_width false (take (suc k) text)) (columns - n) =
    ap (λ t. nat_le (str_width false t) columns) is ∙ ap (λ w. nat_le w columns) (width-indented n (take (suc k) text)) ∙ le_after n (str_width false (take (suc k) text)) columns l in
    ap (longest_prefix_of columns whole) (let e : n + suc k ≡ suc (n + k) = omega arith in e)
    ∙ of_after_step (nat_le (str_width false (take (suc (n + k)) whole)) columns) (nat_le (str_width false (take (suc k) text)) (columns - n)) n (take (suc (n + k)) whole) (take (suc k) text)
    (longest_prefix_of columns whole (n + k)) test is (longest_prefix_of (columns - n) text k) (of_after columns n k text l)

-- the spaces, if all of them fit, and the longest prefix of the text that fits after them
pub prefix-indented : (columns n : ℕ) (text : List ℕ) → n ≤ columns → longest_prefix columns (replicate n 32 ++ text) ≡ replicate n 32 ++ longest_prefix (columns - n) text
unfolding longest_prefix
prefix-indented columns n text l =
    ap (longest_prefix_of columns (replicate n 32 ++ text)) (length-append (replicate n 32) text ∙ ap (λ m. m + length text) (length-replicate {A = ℕ} n 32)) ∙ of_after columns n (length text) text l

-- else as many of them as fit
wide_step : (b : Bool) (columns w : ℕ) (some others : List ℕ) → nat_le w columns ≡ b → columns < w → cond b some others ≡ others
wide_step true columns w some others e h = absurd (omega (arith, leb-true w columns e))
wide_step false columns w some others e h = refl

of_many : (columns n k : ℕ) (text : List ℕ) → columns < n → longest_prefix_of columns (replicate n 32 ++ text) (n + k) ≡ replicate columns 32
of_many columns n zero text l =
    ap (longest_prefix_of columns (replicate n 32 ++ text)) (let e : n + 0 ≡ n = omega arith in e) ∙ of_spaces columns n n text (omega arith)
    ∙ ap (λ m. replicate m 32) (let e : min n columns ≡ columns = omega arith in e)
of_many columns n (suc k) text l =
    let whole = replicate n 32 ++ text in
    let is : take (suc (n + k)) whole ≡ replicate n 32 ++ take (suc k) text = ap (λ m. take m whole) (let e : suc (n + k) ≡ n + suc k = omega arith in e) ∙ take_after n (suc k) text in
    let wide : columns < str_width false (take (suc (n + k)) whole) = omega (arith, ap (str_width false) is, width-indented n (take (suc k) text)) in
    ap (longest_prefix_of columns whole) (let e : n + suc k ≡ suc (n + k) = omega arith in e)
    ∙ wide_step (nat_le (str_width false (take (suc (n + k)) whole)) columns) columns (str_width false (take (suc (n + k)) whole)) (take (suc (n + k)) whole) (longest_prefix_of columns whole (n + k)) refl wide
    ∙ of_many columns n k text l

pub prefix-spaces : (columns n : ℕ) (text : List ℕ) → columns < n → longest_prefix columns (replicate n 32 ++ text) ≡ replicate columns 32
unfolding longest_prefix
prefix-spaces columns n text l =
    ap (longest_prefix_of columns (replicate n 32 ++ text)) (length-append (replicate n 32) text ∙ ap (λ m. m + length text) (length-replicate {A = ℕ} n 32)) ∙ of_many columns n (length text) text l
