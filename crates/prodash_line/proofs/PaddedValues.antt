-- Values behind a space and padding that are written whole: their bytes, their columns, and where they end.
use Rattle.std.proofs.Common.{◌≡◌, ℕ, ◌+◌, ◌-◌, ◌≤◌, ◌<◌, ◌^◌, Bool, true, false, List, [], ◌∷◌, ◌++◌, Option, Some, None, codes, length, replicate, refl, sym, ap, subst, ◌∙◌, append_assoc, arith, length-append}
use Rattle.std.specs.Prelude.{sum_by}
use Rattle.std.specs.Bool.{then_some}
use Rattle.std.specs.Fmt.{decimal, digits}
use Rattle.std.proofs.lemmas.Fmt.{decimal_nonempty}
use Rattle.std.proofs.lemmas.List.{replicate-append-replicate}
use Rattle.std.proofs.lemmas.List.Sums.{sum_by-cons}
use Rattle.unicode_width.specs.Width.{str_width}
use Rattle.prodash_line.specs.declared.render.line.draw.line_writer.LineWriter.{LineWriter}
use Rattle.prodash_line.specs.declared.render.line.draw.room.Room.TheVariants.{Columns}
use Rattle.prodash_line.specs.Lines.{Line, piece, spaces, capped, width_of}
use Rattle.prodash_line.specs.ProgressRows.{fraction_of}
use Rattle.prodash_line.specs.TextStyles.{values_style}
use Rattle.prodash_line.specs.plumbing.RowWriting.{after_padding, drawn_fraction, drawn_texts, end_of_values, padded_bytes, OrNothing, PadsAsIs, PadsTo, styled_values, values_bytes, values_opening, values_reset}
use Rattle.prodash_line.specs.plumbing.Writing.{is_printable, line_bytes, open_bytes, reset_bytes, Appends}
use Rattle.prodash_line.proofs.Columns.{chars-printable, printable-spaces, width-printable, width-spaces}
use Rattle.prodash_line.specs.DrawnLines.{drawn_chars}
use Rattle.prodash_line.proofs.DrawnTexts.{printable_as_is}
use Rattle.prodash_line.proofs.RowLines.{padded_to}
use Rattle.prodash_line.proofs.WholeLines.{appends_all}
use Rattle.prodash_line.proofs.Written.{line_bytes-append, line_bytes-printable, line_bytes-styled, style_of_each}
use Rattle.prodash_line.proofs.WrittenDigits.{printable_fraction}

-- ---- their bytes

opened : (colored : Bool) → open_bytes (then_some colored values_style) ≡ values_opening colored
unfolding digits
opened true = refl
opened false = refl

closed : (colored : Bool) → reset_bytes (then_some colored values_style) ≡ values_reset colored
closed true = refl
closed false = refl

bytes_of_values : (colored : Bool) (text : List ℕ) → is_printable text ≡ true → 0 < length text → line_bytes (styled_values colored text ∷ []) ≡ values_bytes colored text
bytes_of_values colored text h some =
    let style = then_some colored values_style in
    line_bytes-styled style text text (line_bytes-printable text h)
    ∙ ap (λ s. open_bytes s ++ (text ++ reset_bytes s)) (style_of_each style (length text) some)
    ∙ (λ i. opened colored i ++ (text ++ closed colored i))

bytes_of_texts : (colored : Bool) (values unit : List ℕ) → is_printable values ≡ true → is_printable unit ≡ true → 0 < length values
    → line_bytes (drawn_texts colored values unit) ≡ values_bytes colored values ++ 32 ∷ unit
bytes_of_texts colored values unit h u some =
    line_bytes-append (styled_values colored values ∷ []) (spaces 1 ∷ piece unit ∷ [])
    ∙ ap (λ t. t ++ line_bytes (spaces 1 ∷ piece unit ∷ [])) (bytes_of_values colored values h some)
    ∙ ap (λ t. values_bytes colored values ++ t) (line_bytes-append (spaces 1 ∷ []) (piece unit ∷ [])
    ∙ ap (λ t. t ++ line_bytes (piece unit ∷ [])) (line_bytes-printable (replicate 1 32) (printable-spaces 1))
    ∙ ap (λ t. replicate 1 32 ++ t) (line_bytes-printable unit u))

bytes_of_padded : (padding : ℕ) (line : Line) → line_bytes (after_padding padding line) ≡ padded_bytes padding (line_bytes line)
bytes_of_padded padding line =
    line_bytes-append (spaces 1 ∷ []) (spaces padding ∷ line)
    ∙ ap (λ t. t ++ line_bytes (spaces padding ∷ line)) (line_bytes-printable (replicate 1 32) (printable-spaces 1))
    ∙ ap (λ t. replicate 1 32 ++ t) (line_bytes-append (spaces padding ∷ []) line ∙ ap (λ t. t ++ line_bytes line) (line_bytes-printable (replicate padding 32) (printable-spaces padding)))
    ∙ sym (append_assoc (replicate 1 32) (replicate padding 32) (line_bytes line))
    ∙ ap (λ t. t ++ line_bytes line) (replicate-append-replicate 1 padding 32)

-- ---- in a line with this much room

appends_padded : (old new : LineWriter) (left padding n columns : ℕ) (line : Line) (bytes : List ℕ) → line_bytes line ≡ bytes → n ≡ sum_by width_of line → columns ≡ 1 + padding + n
    → old.room ≡ Columns left → columns ≤ left → old.width ≤ 65535
    → new.bytes ≡ old.bytes ++ padded_bytes padding bytes → new.width ≡ capped (old.width + columns)
    → new.limit ≡ old.limit → new.room ≡ Columns (left - columns) → Appends old (after_padding padding line) new
appends_padded old new left padding n columns line own is sum all room fits short bytes width limit after =
    let one = width-spaces 1 in
    let gap = width-spaces padding in
    let whole : columns ≡ sum_by width_of (after_padding padding line) = omega (arith, all, sum, one, gap, sum_by-cons width_of (spaces 1) (spaces padding ∷ line), sum_by-cons width_of (spaces padding) line) in
    appends_all old new left columns (after_padding padding line) room whole fits short
    (bytes ∙ ap (λ t. old.bytes ++ t) (ap (padded_bytes padding) (sym is) ∙ sym (bytes_of_padded padding line))) width limit after

some_fraction : (step : ℕ) (bound : Option ℕ) → step < 2 ^ 64 → 0 < length (fraction_of step bound)
some_fraction step None h = decimal_nonempty step h
some_fraction step (Some bound) h = omega (arith, decimal_nonempty step h, length-append (decimal step) (codes "/" ++ decimal bound))

-- a fraction
pub appends_padded_fraction : (old new : LineWriter) (left padding columns : ℕ) (colored : Bool) (step : ℕ) (bound : Option ℕ) → step < 2 ^ 64
    → columns ≡ 1 + padding + length (fraction_of step bound) → old.room ≡ Columns left → columns ≤ left → old.width ≤ 65535
    → new.bytes ≡ old.bytes ++ padded_bytes padding (values_bytes colored (fraction_of step bound)) → new.width ≡ capped (old.width + columns)
    → new.limit ≡ old.limit → new.room ≡ Columns (left - columns) → Appends old (after_padding padding (drawn_fraction colored step bound)) new
appends_padded_fraction old new left padding columns colored step bound small all room fits short bytes width limit after =
    let text = fraction_of step bound in
    let h = printable_fraction step bound in
    let wide : str_width false text ≡ length text = width-printable text h in
    appends_padded old new left padding (length text) columns (drawn_fraction colored step bound) (values_bytes colored text) (bytes_of_values colored text h (some_fraction step bound small))
    (omega (arith, wide, sum_by-cons width_of (styled_values colored text) [])) all room fits short bytes width limit after

-- values and a unit
pub appends_padded_texts : (old new : LineWriter) (left padding columns : ℕ) (colored : Bool) (values unit : List ℕ) → is_printable values ≡ true → is_printable unit ≡ true → 0 < length values
    → columns ≡ 2 + padding + length values + length unit → old.room ≡ Columns left → columns ≤ left → old.width ≤ 65535
    → new.bytes ≡ old.bytes ++ padded_bytes padding (values_bytes colored values ++ 32 ∷ unit) → new.width ≡ capped (old.width + columns)
    → new.limit ≡ old.limit → new.room ≡ Columns (left - columns) → Appends old (after_padding padding (drawn_texts colored values unit)) new
appends_padded_texts old new left padding columns colored values unit h u some all room fits short bytes width limit after =
    let wide : str_width false values ≡ length values = width-printable values h in
    let wide_unit : str_width false unit ≡ length unit = width-printable unit u in
    let one = width-spaces 1 in
    let sum : length values + 1 + length unit ≡ sum_by width_of (drawn_texts colored values unit) =
    omega (arith, wide, wide_unit, one, sum_by-cons width_of (styled_values colored values) (spaces 1 ∷ piece unit ∷ []), sum_by-cons width_of (spaces 1) (piece unit ∷ []), sum_by-cons width_of (piece unit) []) in
    appends_padded old new left padding (length values + 1 + length unit) columns (drawn_texts colored values unit) (values_bytes colored values ++ 32 ∷ unit) (bytes_of_texts colored values unit h u some)
    sum (omega (arith, all)) room fits short bytes width limit after

-- ---- where values and a unit end

pub pads_as_is : (old new : LineWriter) (colored : Bool) (midpoint own padding : ℕ) (values unit : List ℕ) → is_printable values ≡ true → is_printable unit ≡ true
    → own ≡ capped (old.width + (2 + length values + length unit)) → padding ≡ midpoint - own
    → Appends old (after_padding padding (drawn_texts colored values unit)) new → PadsAsIs colored midpoint values unit own old new
pads_as_is old new colored midpoint own padding values unit h u o p follows defensive =
    let wide : str_width false values ≡ length values = width-printable values h in
    let wide_unit : str_width false unit ≡ length unit = width-printable unit u in
    let one = width-spaces 1 in
    let ends : own ≡ end_of_values old.width (drawn_texts true values unit) = omega (arith, o, wide, wide_unit, one) in
    let whole : PadsTo colored midpoint (drawn_texts true values unit) own old new = record { ends = ends; padded = padded_to colored midpoint own padding (drawn_texts true values unit) ends p follows } in
    subst (λ (t : List ℕ). PadsTo colored midpoint (drawn_texts true (drawn_chars defensive values) t) own old new) (sym (chars-printable unit u) ∙ printable_as_is defensive unit u)
    (subst (λ (t : List ℕ). PadsTo colored midpoint (drawn_texts true t unit) own old new) (sym (chars-printable values h) ∙ printable_as_is defensive values h) whole)

-- with that column, or without one
pub drawn_when : (whole : Bool) (own : ℕ) (old new : LineWriter) (draws : ℕ → LineWriter → LineWriter → Type 0) → (whole ≡ true → draws own old new) → (whole ≡ false → new ≡ old)
    → OrNothing old new draws (then_some whole own)
drawn_when true own old new draws all nothing = all refl
drawn_when false own old new draws all nothing = nothing refl
