-- What lists of signs and lines spell.
use Rattle.std.proofs.Common.{◌≡◌, ℕ, zero, suc, ◌<◌, true, List, [], ◌∷◌, ◌++◌, ◌+◌, Option, Some, None, length, map, chars, refl, sym, ap, ◌∙◌, append-nil, append_assoc, length-append, arith}
use Rattle.std.proofs.lemmas.List.{map-append}
use Rattle.std.specs.Str.{IsUtf8, encode_utf8_all}
use Rattle.std.specs.Char.{encode_utf8}
use Rattle.std.proofs.lemmas.Str.{encodes-chars, length-encode, len_utf8_bounds}
use Rattle.std.proofs.lemmas.Grind.{flat_map-append}
use Rattle.prodash_line.specs.declared.render.line.page.sign.Sign.{Sign}
use Rattle.prodash_line.specs.declared.render.line.page.sign.Sign.TheVariants.{Char, Open, Reset}
use Rattle.prodash_line.specs.Signs.{spelling, spelling_of}
use Rattle.prodash_line.specs.declared.render.line.page.style.Style.{Style}
use Rattle.prodash_line.specs.Lines.{Line, piece, styled}
use Rattle.prodash_line.specs.Frames.{piece_signs, line_signs}
use Rattle.prodash_line.specs.plumbing.Writing.{is_printable, line_bytes, style_of_length, open_bytes, reset_bytes}
use Rattle.prodash_line.proofs.Columns.{chars-printable, utf8-printable}

pub spelling-append : (xs ys : List Sign) → spelling (xs ++ ys) ≡ spelling xs ++ spelling ys
spelling-append = flat_map-append spelling_of

spelling-chars : (cs : List ℕ) → spelling (map Char cs) ≡ encode_utf8_all cs
spelling-chars [] = refl
spelling-chars (c ∷ cs) = ap (λ t. encode_utf8 c ++ t) (spelling-chars cs)

pub line_bytes-nil : line_bytes [] ≡ []
unfolding line_bytes
line_bytes-nil = refl

pub line_bytes-append : (a b : Line) → line_bytes (a ++ b) ≡ line_bytes a ++ line_bytes b
unfolding line_bytes
line_bytes-append a b = ap spelling (flat_map-append piece_signs a b) ∙ spelling-append (line_signs a) (line_signs b)

line_bytes-piece : (text : List ℕ) → line_bytes (piece text ∷ []) ≡ spelling (map Char text)
unfolding line_bytes
line_bytes-piece text = ap spelling (append-nil (map Char text))

-- the bytes of a text are its own
pub line_bytes-text : (bytes : List ℕ) → IsUtf8 bytes → line_bytes (piece (chars bytes) ∷ []) ≡ bytes
line_bytes-text bytes u = line_bytes-piece (chars bytes) ∙ spelling-chars (chars bytes) ∙ encodes-chars bytes u

-- so are those of printable ASCII characters
pub line_bytes-printable : (text : List ℕ) → is_printable text ≡ true → line_bytes (piece text ∷ []) ≡ text
line_bytes-printable text h = ap (λ t. line_bytes (piece t ∷ [])) (sym (chars-printable text h)) ∙ line_bytes-text text (utf8-printable text h)

-- two pieces have the bytes of one with both their texts
pub line_bytes-joined : (a b : List ℕ) → line_bytes (piece a ∷ piece b ∷ []) ≡ line_bytes (piece (a ++ b) ∷ [])
line_bytes-joined a b =
    line_bytes-append (piece a ∷ []) (piece b ∷ [])
    ∙ ap (λ t. t ++ line_bytes (piece b ∷ [])) (line_bytes-piece a)
    ∙ ap (λ t. spelling (map Char a) ++ t) (line_bytes-piece b)
    ∙ sym (spelling-append (map Char a) (map Char b))
    ∙ ap spelling (sym (map-append Char a b))
    ∙ sym (line_bytes-piece (a ++ b))

style_of_some : (style : Style) (n : ℕ) → 0 < n → style_of_length (Some style) n ≡ Some style
style_of_some style zero h = absurd (omega arith)
style_of_some style (suc n) h = refl

pub style_of_each : (style : Option Style) (n : ℕ) → 0 < n → style_of_length style n ≡ style
style_of_each None n h = refl
style_of_each (Some style) n h = style_of_some style n h

-- a text in a style: what begins the style, the bytes of the text, and what ends it; of an empty text nothing
pub line_bytes-styled : (style : Option Style) (cs b : List ℕ) → line_bytes (piece cs ∷ []) ≡ b
    → line_bytes (styled style cs ∷ []) ≡ open_bytes (style_of_length style (length b)) ++ (b ++ reset_bytes (style_of_length style (length b)))
unfolding line_bytes
line_bytes-styled None cs b e = e ∙ sym (append-nil b)
line_bytes-styled (Some style) [] b e = ap (λ (t : List ℕ). open_bytes (style_of_length (Some style) (length t)) ++ (t ++ reset_bytes (style_of_length (Some style) (length t)))) e
line_bytes-styled (Some style) (c ∷ cs) b e =
    let text = map Char (c ∷ cs) in
    let is : spelling text ≡ b = sym (line_bytes-piece (c ∷ cs)) ∙ e in
    let sum : length (spelling text) ≡ length (encode_utf8 c) + length (spelling (map Char cs)) = length-append (encode_utf8 c) (spelling (map Char cs)) in
    let bounds = len_utf8_bounds c in
    let some : 0 < length b = omega (arith, ap length is, length-encode c) in
    ap spelling (append-nil (Open style ∷ (text ++ Reset ∷ [])))
    ∙ ap (λ t. spelling_of (Open style) ++ t) (spelling-append text (Reset ∷ []) ∙ ap (λ t. t ++ spelling_of Reset) is)
    ∙ ap (λ shown. open_bytes shown ++ (b ++ reset_bytes shown)) (sym (style_of_some style (length b) some))

-- a text between what begins a style and what ends it
pub styled_bytes : (old o w new : List ℕ) (style : Option Style) (cs b : List ℕ) (n : ℕ) → line_bytes (piece cs ∷ []) ≡ b → n ≡ length b
    → o ≡ old ++ open_bytes (style_of_length style n) → w ≡ o ++ b → new ≡ w ++ reset_bytes (style_of_length style n) → new ≡ old ++ line_bytes (styled style cs ∷ [])
styled_bytes old o w new style cs b n e size eo ew en =
    let shown = style_of_length style n in
    en ∙ ap (λ t. t ++ reset_bytes shown) (ew ∙ ap (λ t. t ++ b) eo)
    ∙ append_assoc (old ++ open_bytes shown) b (reset_bytes shown)
    ∙ append_assoc old (open_bytes shown) (b ++ reset_bytes shown)
    ∙ ap (λ (k : ℕ). old ++ (open_bytes (style_of_length style k) ++ (b ++ reset_bytes (style_of_length style k)))) size
    ∙ ap (λ t. old ++ t) (sym (line_bytes-styled style cs b e))
