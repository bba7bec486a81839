-- The widths of lines, and of printable ASCII characters.
use Rattle.std.proofs.Common.{◌≡◌, ℕ, zero, suc, ◌+◌, ◌/◌, ◌%◌, ◌==◌, ◌<◌, ◌≤◌, Bool, true, false, cond, not, ◌&&◌, ◌-◌, List, [], ◌∷◌, ◌++◌, length, take, drop, replicate, chars, refl, sym, ap, ◌∙◌, arith}
use Rattle.std.specs.Int.{is_in_range}
use Rattle.std.specs.Fmt.{decimal, digits, digits_onto, digit_glyph}
use Rattle.std.specs.Str.{IsUtf8, IsAscii}
use Rattle.std.proofs.lemmas.Bool.{and_parts}
use Rattle.std.proofs.lemmas.Bool.Decides.{nat_tests}
use Rattle.std.proofs.lemmas.List.{length-replicate, take-append-drop, take-take}
use Rattle.std.proofs.lemmas.List.Sums.{sum_by-append, sum_by-cons}
use Rattle.std.proofs.lemmas.Str.{chars-IsAscii, IsUtf8-from_ascii}
use Rattle.std.proofs.lemmas.Str.Ascii.{IsAscii-cons, IsAscii-nil}
use Rattle.unicode_width.proofs.Computing.{unicode_width}
use Rattle.unicode_width.specs.declared.state.State.{State}
use Rattle.unicode_width.specs.Width.{plain, step, read_before, str_width}
use Rattle.unicode_width.proofs.Rules.{str_width-printable}
use Rattle.prodash_base.specs.Numerals.{last_digits}
use Rattle.prodash_line.proofs.EarlierRows.{agree}
use Rattle.prodash_line.specs.Lines.{Piece, Line, capped, width_of, columns_of}
use Rattle.prodash_line.specs.plumbing.Writing.{is_printable}

pub columns_of-append : (a b : Line) → columns_of (a ++ b) ≡ capped (columns_of a + columns_of b)
columns_of-append a b = omega (arith, sum_by-append width_of a b)

-- one piece more
pub columns_of-last : (line : Line) (p : Piece) → columns_of (line ++ p ∷ []) ≡ capped (columns_of line + width_of p)
columns_of-last line p = omega (arith, sum_by-append width_of line (p ∷ []), sum_by-cons width_of p [])

-- ---- printable ASCII characters

pub printable-append : (xs ys : List ℕ) → is_printable xs ≡ true → is_printable ys ≡ true → is_printable (xs ++ ys) ≡ true
printable-append [] ys h i = i
printable-append (c ∷ cs) ys h i = let parts = and_parts (is_in_range 0x20 0x7E c) (is_printable cs) h in
    ap (λ b. b && is_printable (cs ++ ys)) parts.0 ∙ printable-append cs ys parts.1 i

in_range : (c : ℕ) → 32 ≤ c → c ≤ 126 → is_in_range 0x20 0x7E c ≡ true
in_range c low high = grind (arith, nat_tests)

pub printable-parts : (xs ys : List ℕ) → is_printable (xs ++ ys) ≡ true → (is_printable xs ≡ true) × (is_printable ys ≡ true)
printable-parts [] ys h = (refl, h)
printable-parts (c ∷ cs) ys h =
    let both = and_parts (is_in_range 0x20 0x7E c) (is_printable (cs ++ ys)) h in
    let others = printable-parts cs ys both.1 in
    (ap (λ b. b && is_printable cs) both.0 ∙ others.0, others.1)

pub printable-one : (c : ℕ) → 32 ≤ c → c ≤ 126 → is_printable (c ∷ []) ≡ true
printable-one c low high = ap (λ b. b && true) (in_range c low high)

pub printable-repeated : (n c : ℕ) → 32 ≤ c → c ≤ 126 → is_printable (replicate n c) ≡ true
printable-repeated zero c low high = refl
printable-repeated (suc n) c low high = ap (λ b. b && is_printable (replicate n c)) (in_range c low high) ∙ printable-repeated n c low high

pub printable-spaces : (n : ℕ) → is_printable (replicate n 32) ≡ true
printable-spaces n = printable-repeated n 32 (omega arith) (omega arith)

-- digits are printable
printable-digit : (d : ℕ) → d < 10 → is_printable (digit_glyph false d ∷ []) ≡ true
printable-digit d h = grind (arith, nat_tests)

pub printable-either : (b : Bool) (xs ys : List ℕ) → is_printable xs ≡ true → is_printable ys ≡ true → is_printable (cond b xs ys) ≡ true
printable-either true xs ys h i = h
printable-either false xs ys h i = i

printable-digits : (k n : ℕ) (text : List ℕ) → is_printable text ≡ true → is_printable (digits_onto k 10 false n text) ≡ true
printable-digits zero n text h = h
printable-digits (suc k) n text h =
    let more = digit_glyph false (n % 10) ∷ text in
    let digit : is_printable more ≡ true = printable-append (digit_glyph false (n % 10) ∷ []) text (printable-digit (n % 10) (omega arith)) h in
    printable-either (n / 10 == 0) more (digits_onto k 10 false (n / 10) more) digit (printable-digits k (n / 10) more digit)

pub printable-decimal : (n : ℕ) → is_printable (decimal n) ≡ true
unfolding digits
printable-decimal n = printable-digits 64 n [] refl

pub printable-last_digits : (places n : ℕ) → is_printable (last_digits places n) ≡ true
unfolding last_digits
printable-last_digits zero n = refl
printable-last_digits (suc places) n =
    printable-append (last_digits places (n / 10)) ((48 + n % 10) ∷ []) (printable-last_digits places (n / 10)) (printable-one (48 + n % 10) (omega arith) (omega arith))

pub printable-take : (k : ℕ) (text : List ℕ) → is_printable text ≡ true → is_printable (take k text) ≡ true
printable-take zero text h = refl
printable-take (suc k) [] h = refl
printable-take (suc k) (c ∷ cs) h = let parts = and_parts (is_in_range 0x20 0x7E c) (is_printable cs) h in
    ap (λ b. b && is_printable (take k cs)) parts.0 ∙ printable-take k cs parts.1

-- a text is printable if its first characters and its last ones are, and there are no others
pub printable-ends : (size : ℕ) (text : List ℕ) → length text ≤ size + size
    → (is_printable (take size text) && is_printable (drop (length text - size) text)) ≡ is_printable text
printable-ends size text few =
    let before = length text - size in
    let whole = take-append-drop before text in
    agree (is_printable (take size text) && is_printable (drop before text)) (is_printable text)
    (λ both. let ends = and_parts (is_printable (take size text)) (is_printable (drop before text)) both in
    let first : is_printable (take before text) ≡ true =
    ap is_printable (sym (take-take before size text (omega arith))) ∙ printable-take before (take size text) ends.0 in
    ap is_printable (sym whole) ∙ printable-append (take before text) (drop before text) first ends.1)
    (λ all. let last = printable-parts (take before text) (drop before text) (ap is_printable whole ∙ all) in
    ap (λ b. b && is_printable (drop before text)) (printable-take size text all) ∙ last.1)

printable-ascii : (text : List ℕ) → is_printable text ≡ true → IsAscii text
printable-ascii [] h = IsAscii-nil
printable-ascii (c ∷ cs) h = let parts = and_parts (is_in_range 0x20 0x7E c) (is_printable cs) h in
    IsAscii-cons c cs (let e = parts.0 in grind (arith, nat_tests, e)) (printable-ascii cs parts.1)

-- they are their own characters
pub chars-printable : (text : List ℕ) → is_printable text ≡ true → chars text ≡ text
chars-printable text h = chars-IsAscii text (printable-ascii text h)

pub utf8-printable : (text : List ℕ) → is_printable text ≡ true → IsUtf8 text
utf8-printable text h = IsUtf8-from_ascii text (printable-ascii text h)

-- their number is their width
pub width-printable : (text : List ℕ) → is_printable text ≡ true → str_width false text ≡ length text
width-printable text h = str_width-printable false text h

pub width-ascii : (text : List ℕ) → is_printable text ≡ true → length text ≡ str_width false (chars text)
width-ascii text h = sym (ap (str_width false) (chars-printable text h) ∙ width-printable text h)

pub width-repeated : (n c : ℕ) → 32 ≤ c → c ≤ 126 → str_width false (replicate n c) ≡ n
width-repeated n c low high = width-printable (replicate n c) (printable-repeated n c low high) ∙ length-replicate n c

pub width-spaces : (n : ℕ) → str_width false (replicate n 32) ≡ n
width-spaces n = width-repeated n 32 (omega arith) (omega arith)

-- ---- spaces before a text

same_cond : {A : Type 0} (b : Bool) (x : A) → cond b x x ≡ x
same_cond true x = refl
same_cond false x = refl

-- a space takes a column, whatever follows it
step_space : (total : ℕ) (s : State) → step false 32 (total, s) ≡ (total + 1, plain)
unfolding unicode_width
step_space total s = same_cond (not s.emoji) (total + 1, plain)

pub width-indented : (n : ℕ) (text : List ℕ) → str_width false (replicate n 32 ++ text) ≡ n + str_width false text
unfolding str_width
width-indented zero text = omega arith
width-indented (suc n) text =
    let r = read_before false (replicate n 32 ++ text) (0, plain) in
    let here : (step false 32 r).0 ≡ r.0 + 1 = ap (λ q. q.0) (step_space r.0 r.1) in
    let others : r.0 ≡ n + str_width false text = width-indented n text in
    omega arith
