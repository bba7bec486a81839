-- The parameters of a style: its codes in decimal, with `;` between each two, and read back from those.
use Rattle.std.proofs.Common.{◌≡◌, ◌≢◌, ℕ, ◌+◌, ◌^◌, ◌<◌, eqb, Option, Some, None, List, [], ◌∷◌, ◌++◌, length, get_or, take, drop, map, refl, sym, ap, ◌∙◌, append_assoc, arith}
use Rattle.std.specs.List.{AllByRecursion, cons_option, filter_map, join_with_byte, slice_split}
use Rattle.std.specs.Fmt.{decimal}
use Rattle.std.specs.Str.Parse.{digits_value}
use Rattle.std.proofs.lemmas.Fmt.{decimal_is_IsNumeral}
use Rattle.std.proofs.lemmas.List.{take_more, drop_more, take-append-drop, take_all, map_push, take-map, get_or-map, length-map, append-nil}
use Rattle.std.proofs.lemmas.List.Elements.{All-from_recursion, filter_map-append}
use Rattle.std.proofs.lemmas.List.Splits.{slice_split_none, slice_split_at, join_with_byte-slice_split, length-slice_split}
use Rattle.prodash_line.specs.declared.render.line.page.style.Style.{Style}
use Rattle.prodash_line.specs.Styles.{style_codes, style_parameters}
use Rattle.prodash_line.specs.plumbing.SignReading.{NoStyle}
use Rattle.prodash_line.proofs.Spellings.{decimal_not_semicolon}
use Rattle.prodash_line.proofs.StyleCodes.{IsCode, are_codes}

-- the parts of parameters between semicolons
abbrev pub parts_of : List ℕ → List (List ℕ)
parts_of parameters = slice_split (λ b. eqb b 59) parameters

-- the parts are the codes in decimal
parts_of-join : (code : ℕ) (codes : List ℕ) → AllByRecursion IsCode (code ∷ codes) → parts_of (join_with_byte 59 (map decimal (code ∷ codes))) ≡ map decimal (code ∷ codes)
parts_of-join code [] h = slice_split_none (λ b. eqb b 59) (decimal code) (decimal_not_semicolon code (omega (arith, h.0.1)))
parts_of-join code (next ∷ codes) h =
    slice_split_at (λ b. eqb b 59) (decimal code) 59 (join_with_byte 59 (map decimal (next ∷ codes))) (decimal_not_semicolon code (omega (arith, h.0.1))) refl
    ∙ ap (λ (parts : List (List ℕ)). decimal code ∷ parts) (parts_of-join next codes h.1)

some_codes : (codes : List ℕ) → AllByRecursion IsCode codes → codes ≢ [] → parts_of (join_with_byte 59 (map decimal codes)) ≡ map decimal codes
some_codes [] h some = absurd (some refl)
some_codes (code ∷ codes) h some = parts_of-join code codes h

-- the same of a style's parameters
pub parts_of-style : (s : Style) → style_codes s ≢ [] → parts_of (style_parameters s) ≡ map decimal (style_codes s)
parts_of-style s some = some_codes (style_codes s) (are_codes s) some

-- codes by their digits
digits_of_codes : (codes : List ℕ) → AllByRecursion IsCode codes → map (digits_value 10) (map decimal codes) ≡ codes
digits_of_codes [] h = refl
digits_of_codes (code ∷ codes) h = ap (λ (n : ℕ). n ∷ map (digits_value 10) (map decimal codes)) (decimal_is_IsNumeral code (omega arith)).1 ∙ ap (λ (ns : List ℕ). code ∷ ns) (digits_of_codes codes h.1)

-- the codes, read from the parameters
pub codes_of_parameters : (s : Style) → style_codes s ≢ [] → map (digits_value 10) (parts_of (style_parameters s)) ≡ style_codes s
codes_of_parameters s some = ap (map (digits_value 10)) (parts_of-style s some) ∙ digits_of_codes (style_codes s) (are_codes s)

-- each part of a style's parameters is a code in decimal
part_is_code : (s : Style) (parameters digits : List ℕ) (k : ℕ) → style_codes s ≢ [] → style_parameters s ≡ parameters → k < length (parts_of parameters) → digits ≡ get_or (parts_of parameters) k digits
    → (code : ℕ) × (IsCode code × (decimal code ≡ digits))
part_is_code s parameters digits k some e inside is =
    let parts : parts_of parameters ≡ map decimal (style_codes s) = ap parts_of (sym e) ∙ parts_of-style s some in
    let fits : k < length (style_codes s) = omega (arith, ap length parts, length-map (style_codes s) decimal) in (
      get_or (style_codes s) k 0,
      (
        All-from_recursion IsCode (style_codes s) (are_codes s) k 0 fits,
        sym (is ∙ ap (λ (t : List (List ℕ)). get_or t k digits) parts ∙ get_or-map decimal (style_codes s) k 0 digits fits),
      ),
    )

-- so there is no style if a part is no number
pub none_numbered : (parameters digits : List ℕ) (k : ℕ) → ((n : ℕ) → 0 < n → n < 2 ^ 16 → decimal n ≡ digits → ⊥) → (k < length (parts_of parameters)) × (digits ≡ get_or (parts_of parameters) k digits) → NoStyle parameters
none_numbered parameters digits k none at s some e =
    let code = part_is_code s parameters digits k some e at.0 at.1 in
    none code.0 code.1.0.0 code.1.0.1 code.1.1

-- codes by the first k parts
codes_taken : (codes : List ℕ) (parts : List (List ℕ)) (k : ℕ) → AllByRecursion IsCode codes → map decimal codes ≡ take k parts → codes ≡ take k (map (digits_value 10) parts)
codes_taken codes parts k h e = sym (digits_of_codes codes h) ∙ ap (map (digits_value 10)) e ∙ sym (take-map (digits_value 10) k parts)

-- nor if a number is no code that follows those before it
pub none_coded : (parameters digits : List ℕ) (k n : ℕ) (s : Style) → map decimal (style_codes s) ≡ take k (parts_of parameters) → n < 2 ^ 16 → decimal n ≡ digits
    → ((other : Style) (rest : List ℕ) → style_codes other ≡ style_codes s ++ n ∷ rest → ⊥) → (k < length (parts_of parameters)) × (digits ≡ get_or (parts_of parameters) k digits) → NoStyle parameters
none_coded parameters digits k n s before small is none at other some e =
    let parts : List (List ℕ) = parts_of parameters in
    let numbers : List ℕ = map (digits_value 10) parts in
    let codes : style_codes other ≡ numbers = sym (codes_of_parameters other some) ∙ ap (λ (t : List ℕ). map (digits_value 10) (parts_of t)) e in
    let fits : k < length numbers = omega (arith, at.0, length-map parts (digits_value 10)) in
    let taken : take k numbers ≡ style_codes s = sym (codes_taken (style_codes s) parts k (are_codes s) before) in
    let next : get_or numbers k 0 ≡ n = get_or-map (digits_value 10) parts k digits 0 at.0 ∙ ap (digits_value 10) (sym (is ∙ at.1)) ∙ (decimal_is_IsNumeral n (omega arith)).1 in
    none other (drop (k + 1) numbers)
    (codes ∙ sym (take-append-drop k numbers) ∙ ap (λ (t : List ℕ). t ++ drop k numbers) taken
    ∙ ap (λ (t : List ℕ). style_codes s ++ t) (drop_more numbers k 0 fits ∙ ap (λ (m : ℕ). m ∷ drop (k + 1) numbers) next))

-- one more code is one more part
pub one_more : (parameters digits : List ℕ) (k j n : ℕ) (s more : Style) → map decimal (style_codes s) ≡ take k (parts_of parameters) → decimal n ≡ digits → style_codes more ≡ style_codes s ++ n ∷ []
    → (k < length (parts_of parameters)) × (digits ≡ get_or (parts_of parameters) k digits) → j ≡ k + 1 → map decimal (style_codes more) ≡ take j (parts_of parameters)
one_more parameters digits k j n s more before is codes at next =
    ap (map decimal) codes ∙ map_push decimal (style_codes s) n ∙ ap (λ (t : List (List ℕ)). t ++ decimal n ∷ []) before
    ∙ ap (λ (t : List ℕ). take k (parts_of parameters) ++ t ∷ []) (is ∙ at.1)
    ∙ sym (take_more (parts_of parameters) k digits at.0) ∙ ap (λ (i : ℕ). take i (parts_of parameters)) (sym next)

-- with all parts it is the style
pub all_coded : (parameters : List ℕ) (k : ℕ) (s : Style) → map decimal (style_codes s) ≡ take k (parts_of parameters) → k ≡ length (parts_of parameters) → (style_codes s ≢ []) × (style_parameters s ≡ parameters)
all_coded parameters k s before all =
    let parts : map decimal (style_codes s) ≡ parts_of parameters = before ∙ take_all k (parts_of parameters) (omega arith) in
    let some : length (parts_of parameters) ≡ _ = length-slice_split (λ b. eqb b 59) parameters in
    (λ none. omega (arith, ap length parts, length-map (style_codes s) decimal, ap length none, some), ap (join_with_byte 59) parts ∙ join_with_byte-slice_split 59 parameters)

-- what comes between these codes and the next
abbrev pub separator : List ℕ → List ℕ
separator [] = []
separator (code ∷ codes) = 59 ∷ []

-- codes with one more after them
pub join-push : (codes : List ℕ) (n : ℕ) → join_with_byte 59 (map decimal (codes ++ n ∷ [])) ≡ join_with_byte 59 (map decimal codes) ++ (separator codes ++ decimal n)
join-push [] n = refl
join-push (code ∷ []) n = refl
join-push (code ∷ next ∷ codes) n =
    ap (λ (t : List ℕ). decimal code ++ 59 ∷ t) (join-push (next ∷ codes) n)
    ∙ sym (append_assoc (decimal code) (59 ∷ join_with_byte 59 (map decimal (next ∷ codes))) (59 ∷ decimal n))

-- separators end in a code
separator-push : (codes : List ℕ) (n : ℕ) → separator (codes ++ n ∷ []) ≡ 59 ∷ []
separator-push [] n = refl
separator-push (code ∷ codes) n = refl

-- the codes among the first items
abbrev pub codes_among : List (Option ℕ) → ℕ → List ℕ
codes_among items i = filter_map (λ code. code) (take i items)

codes_among-more : (items : List (Option ℕ)) (i : ℕ) → i < length items → codes_among items (i + 1) ≡ codes_among items i ++ cons_option (get_or items i None) []
codes_among-more items i h = ap (filter_map (λ code. code)) (take_more items i None h) ∙ filter_map-append (λ code. code) (take i items) (get_or items i None ∷ [])

-- with the next item, which is a code
pub more_written : (items : List (Option ℕ)) (i n : ℕ) (before between after start : List ℕ) → i < length items → get_or items i None ≡ Some n → before ≡ start ++ join_with_byte 59 (map decimal (codes_among items i)) → between ≡ separator (codes_among items i)
    → after ≡ (before ++ between) ++ decimal n → (after ≡ start ++ join_with_byte 59 (map decimal (codes_among items (i + 1)))) × (59 ∷ [] ≡ separator (codes_among items (i + 1)))
more_written items i n before between after start inside is written sep e =
    let codes : codes_among items (i + 1) ≡ codes_among items i ++ n ∷ [] = codes_among-more items i inside ∙ ap (λ (o : Option ℕ). codes_among items i ++ cons_option o []) is in (
      e ∙ append_assoc before between (decimal n) ∙ ap (λ (t : List ℕ). before ++ (t ++ decimal n)) sep ∙ ap (λ (t : List ℕ). t ++ (separator (codes_among items i) ++ decimal n)) written
          ∙ append_assoc start (join_with_byte 59 (map decimal (codes_among items i))) (separator (codes_among items i) ++ decimal n)
          ∙ ap (λ (t : List ℕ). start ++ t) (sym (join-push (codes_among items i) n)) ∙ ap (λ (t : List ℕ). start ++ join_with_byte 59 (map decimal t)) (sym codes),
      sym (ap separator codes ∙ separator-push (codes_among items i) n),
    )

-- with the next item, which is none
pub none_written : (items : List (Option ℕ)) (i : ℕ) → i < length items → get_or items i None ≡ None → codes_among items (i + 1) ≡ codes_among items i
none_written items i inside is = codes_among-more items i inside ∙ ap (λ (o : Option ℕ). codes_among items i ++ cons_option o []) is ∙ append-nil (codes_among items i)
