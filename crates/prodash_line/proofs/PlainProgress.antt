-- A progress without styles that is written whole: a padded text, and its bar.
use Rattle.std.proofs.Common.{◌≡◌, ◌==◌, if◌then◌else◌, ℕ, ◌+◌, ◌-◌, ◌≤◌, Bool, true, false, List, [], ◌∷◌, ◌++◌, Option, Some, None, codes, length, map, max, replicate, refl, sym, ap, subst, ◌∙◌, append_assoc, arith, length-append}
use Rattle.std.specs.Bool.{then_some}
use Rattle.std.proofs.lemmas.Bool.Decides.{nat_tests}
use Rattle.std.proofs.lemmas.List.{length-replicate, replicate-append-replicate}
use Rattle.unicode_width.specs.Width.{str_width}
use Rattle.std.specs.Option.{option_map}
use Rattle.prodash_base.specs.Rows.{RowProgress, progress_of}
use Rattle.prodash_base.specs.Units.{measure_of}
use Rattle.prodash_base.specs.declared.progress.Value.{Value}
use Rattle.prodash_base.specs.declared.timing.task_time.TaskTime.{TaskTime}
use Rattle.prodash_base.specs.declared.unit.display.Throughput.{Throughput}
use Rattle.prodash_base.specs.declared.unit.units.Unit.{Unit}
use Rattle.prodash_line.specs.declared.render.line.draw.input.Options.{Options}
use Rattle.prodash_line.specs.declared.render.line.draw.line_writer.LineWriter.{LineWriter}
use Rattle.prodash_line.specs.declared.render.line.draw.room.Room.TheVariants.{Columns}
use Rattle.prodash_line.specs.declared.render.line.page.style.Style.{Style}
use Rattle.prodash_line.specs.Lines.{Line, piece, spaces, capped, in_color}
use Rattle.prodash_line.specs.ProgressRows.{fraction_of, fraction_values, values_by, values_of, bar, bar_columns, bar_with, bounded_bar, filled_cells}
use Rattle.prodash_line.specs.TextStyles.{row_style}
use Rattle.prodash_line.specs.plumbing.RowWriting.{end_of_values, AppendsProgress, AppendsText, OrNothing, plain_bar, plain_progress}
use Rattle.prodash_line.specs.plumbing.Writing.{indented, is_printable, Appends, AppendsWhole, AppendsIfRoom}
use Rattle.prodash_line.proofs.Coloring.{columns_of-in_color}
use Rattle.prodash_line.proofs.Columns.{printable-append, printable-parts, printable-repeated, printable-spaces, width-printable, width-spaces}
use Rattle.prodash_line.proofs.JoinedTexts.{joined, ArePrintable, printable-joined, appends_apart}
use Rattle.prodash_line.proofs.LineWriting.{appends_as}
use Rattle.prodash_line.proofs.WholeLines.{appends_whole}
use Rattle.prodash_line.proofs.Written.{line_bytes-printable}

-- ---- printable characters in a line with this much room

appends_printable_whole : (old new : LineWriter) (left : ℕ) (text : List ℕ) → is_printable text ≡ true → old.room ≡ Columns left → length text ≤ left
    → new.bytes ≡ old.bytes ++ text → new.width ≡ capped (old.width + length text) → new.limit ≡ old.limit → new.room ≡ Columns (left - length text)
    → Appends old (piece text ∷ []) new
appends_printable_whole old new left text h room fits bytes width limit after =
    let wide : str_width false text ≡ length text = width-printable text h in
    appends_whole old new left None text room (omega (arith, wide)) (bytes ∙ ap (λ t. old.bytes ++ t) (sym (line_bytes-printable text h)))
    (width ∙ ap (λ n. capped (old.width + n)) (sym wide)) limit (after ∙ ap (λ n. Columns (left - n)) (sym wide))

-- the same behind spaces
pub appends_behind_spaces : (old new : LineWriter) (n : ℕ) (text : List ℕ) → is_printable text ≡ true → AppendsWhole old (indented n text) new → Appends old (spaces n ∷ piece text ∷ []) new
appends_behind_spaces old new n text h whole =
    appends_apart (replicate n 32) (text ∷ []) (printable-spaces n) (h, tt)
    (appends_printable_whole old new whole.left (indented n text) (printable-append (replicate n 32) text (printable-spaces n) h) whole.room whole.fits whole.bytes whole.width whole.limit whole.after)

-- ---- the bar

abbrev texts_of : ℕ → ℕ → List (List ℕ)
texts_of cells filled = replicate filled 61 ∷ codes ">" ∷ replicate (cells - filled) 45 ∷ codes "]" ∷ []

printable_texts : (cells filled : ℕ) → ArePrintable (texts_of cells filled)
printable_texts cells filled = (printable-repeated filled 61 (omega arith) (omega arith), (refl, (printable-repeated (cells - filled) 45 (omega arith) (omega arith), (refl, tt))))

printable_bar : (cells filled : ℕ) → is_printable (plain_bar cells filled) ≡ true
printable_bar cells filled = printable-joined (codes " [") (texts_of cells filled) refl (printable_texts cells filled)

length_bar : (cells filled : ℕ) → filled ≤ cells → length (plain_bar cells filled) ≡ cells + 4
length_bar cells filled within =
    let full = replicate {A = ℕ} filled 61 in
    let empty = replicate {A = ℕ} (cells - filled) 45 in
    omega (
      arith,
      length-append (codes " [") (full ++ (codes ">" ++ (empty ++ codes "]"))),
      length-append full (codes ">" ++ (empty ++ codes "]")),
      length-append (codes ">") (empty ++ codes "]"),
      length-append empty (codes "]"),
      length-replicate {A = ℕ} filled 61,
      length-replicate {A = ℕ} (cells - filled) 45,
    )

-- where there are columns for it
bar_on : (style : Style) (left step bound : ℕ) → 4 ≤ left → bar_with style (left - 4) (filled_cells (left - 4) step bound) ≡ bar style left step (Some bound)
bar_on style left step bound four =
    let some : (left == 0) ≡ false = grind (arith, nat_tests) in
    ap (λ n. bar_with style n (filled_cells n step bound)) (let e : left - 4 ≡ left - 3 - 1 = omega arith in e)
    ∙ ap (λ b. if b then [] else bounded_bar style left step bound) (sym some)

-- a bar takes no more columns than are left
no_more : (most : Option ℕ) (left : ℕ) → bar_columns most left ≤ left
no_more None left = omega arith
no_more (Some most) left = grind (arith, nat_tests)

-- ---- both

pub appends_plain : (old new : LineWriter) (width : ℕ) (most : Option ℕ) (midpoint own end left columns cells filled bound : ℕ) (text : List ℕ) (p : RowProgress)
    → is_printable text ≡ true → columns ≡ capped (length text) → own ≡ capped (capped (old.width + 1) + columns) → end ≡ max own midpoint → left ≡ bar_columns most (width - end) → 4 ≤ left
    → width ≤ 65535 → p.bound ≡ Some bound → cells ≡ left - 4 → filled ≡ filled_cells cells p.counter bound → filled ≤ cells
    → AppendsWhole old (plain_progress (end - own) text cells filled) new
    → AppendsText width most midpoint text p own old new
appends_plain old new width most midpoint own end left columns cells filled bound text p h wide is last rest four short bounded ec ef within whole =
    let one : str_width false (replicate 1 32) ≡ 1 = width-spaces 1 in
    let long : str_width false text ≡ length text = width-printable text h in
    let ends : own ≡ end_of_values old.width (piece text ∷ []) = omega (arith, wide) in
    let pad : ℕ = end - own in
    let gap : List ℕ = replicate (1 + pad) 32 in
    let before : List ℕ = gap ++ text in
    let after : List ℕ = plain_bar cells filled in
    let size : length before ≡ 1 + pad + length text = omega (arith, length-append gap text, length-replicate {A = ℕ} (1 + pad) 32) in
    let more : length after ≡ cells + 4 = length_bar cells filled within in
    let both : length (before ++ after) ≡ length before + length after = length-append before after in
    let fits = whole.fits in
    let between : LineWriter = record old { bytes = old.bytes ++ before; width = capped (old.width + length before); room = Columns (whole.left - length before) } in
    let after_text : end ≡ capped (old.width + length before) = omega (arith, wide, is, last, no_more most (width - end)) in
    let columns_left : left ≡ bar_columns most (width - between.width) = rest ∙ ap (λ n. bar_columns most (width - n)) after_text in
    let is_bar : bar_with (row_style p) cells filled ≡ bar (row_style p) (bar_columns most (width - between.width)) p.counter p.bound =
    ap (bar_with (row_style p) cells) ef ∙ ap (λ n. bar_with (row_style p) n (filled_cells n p.counter bound)) ec ∙ bar_on (row_style p) left p.counter bound four
    ∙ ap (λ n. bar (row_style p) n p.counter (Some bound)) columns_left ∙ ap (bar (row_style p) (bar_columns most (width - between.width)) p.counter) (sym bounded) in
    record {
      ends = ends;
      between = between;
      padded = appends_as (ap (λ n. piece (replicate (1 + n) 32 ++ text) ∷ []) (let e : pad ≡ midpoint - own = omega (arith, last) in e))
          (appends_printable_whole old between whole.left before (printable-append gap text (printable-spaces (1 + pad)) h) whole.room (omega (arith, both)) refl refl refl refl);
      bar = appends_as (ap (in_color false) is_bar)
          (appends_apart (codes " [") (texts_of cells filled) refl (printable_texts cells filled)
          (appends_printable_whole between new (whole.left - length before) after (printable_bar cells filled) refl (omega (arith, both)) (whole.bytes ∙ sym (append_assoc old.bytes before after))
          (whole.width ∙ (let e : capped (old.width + length (before ++ after)) ≡ capped (capped (old.width + length before) + length after) = omega (arith, both) in e)) whole.limit
          (whole.after ∙ ap Columns (let e : whole.left - length (before ++ after) ≡ whole.left - length before - length after = omega (arith, both) in e))));
    }

-- ---- with the column at which values end, or without one

pub drawn_if : (has_room : Bool) (own : ℕ) (text : List ℕ) (old new : LineWriter) (draws : ℕ → LineWriter → LineWriter → Type 0) → (AppendsWhole old text new → draws own old new)
    → AppendsIfRoom old text new has_room → OrNothing old new draws (then_some has_room own)
drawn_if true own text old new draws whole given = whole given
drawn_if false own text old new draws whole given = given

-- the same, told in another way
pub drawn_as : (result : Option ℕ) (old new : LineWriter) (draws tells : ℕ → LineWriter → LineWriter → Type 0) → ((own : ℕ) → draws own old new → tells own old new)
    → OrNothing old new draws result → OrNothing old new tells result
drawn_as None old new draws tells f h = h
drawn_as (Some own) old new draws tells f h = f own h

-- ---- a text that is the values of a progress

spaced : (pad : ℕ) (text : List ℕ) → replicate (1 + pad) 32 ++ text ≡ replicate 1 32 ++ (replicate pad 32 ++ text)
spaced pad text = ap (λ t. t ++ text) (sym (replicate-append-replicate 1 pad 32)) ∙ append_assoc (replicate 1 32) (replicate pad 32) text

appends_progress : {defensive : Bool} (old new : LineWriter) (width : ℕ) (most : Option ℕ) (midpoint own : ℕ) (text x : List ℕ) (xs : List (List ℕ)) (values : Line) (p : RowProgress)
    → is_printable x ≡ true → ArePrintable xs → text ≡ joined x xs → in_color false values ≡ piece x ∷ map piece xs
    → end_of_values old.width (piece text ∷ []) ≡ end_of_values old.width values → AppendsText width most midpoint text p own old new → AppendsProgress false defensive width most midpoint values p None own old new
appends_progress old new width most midpoint own text x xs values p h all is shown same given =
    let pad : ℕ = midpoint - own in
    let ends = given.ends ∙ same in
    record {
      ends = ends;
      between = given.between;
      padded = appends_as (λ i. spaces 1 ∷ spaces (midpoint - ends i) ∷ sym shown i)
          (appends_apart (replicate 1 32) (replicate pad 32 ∷ x ∷ xs) (printable-spaces 1) (printable-spaces pad, (h, all))
          (appends_as (ap (λ t. piece t ∷ []) (spaced pad text ∙ ap (λ t. replicate 1 32 ++ (replicate pad 32 ++ t)) is)) given.padded));
      timed = given.between;
      time_follows = refl;
      bar = given.bar;
    }

-- a fraction
pub appends_fraction : {defensive : Bool} (old new : LineWriter) (width : ℕ) (most : Option ℕ) (midpoint own : ℕ) (text : List ℕ) (p : RowProgress) → is_printable text ≡ true → text ≡ fraction_of p.counter p.bound
    → AppendsText width most midpoint text p own old new → AppendsProgress false defensive width most midpoint (fraction_values p.counter p.bound) p None own old new
appends_fraction old new width most midpoint own text p h is given =
    appends_progress old new width most midpoint own text text [] (fraction_values p.counter p.bound) p h tt refl (ap (λ t. piece t ∷ []) (sym is))
    (ap (λ t. end_of_values old.width (piece t ∷ [])) is) given

-- values and a unit
pub appends_unit : {defensive : Bool} (old new : LineWriter) (width : ℕ) (most : Option ℕ) (midpoint own : ℕ) (text first second : List ℕ) (values : Line) (p : RowProgress) → is_printable text ≡ true
    → text ≡ (first ++ codes " ") ++ second → in_color false values ≡ piece first ∷ piece (codes " ") ∷ piece second ∷ []
    → AppendsText width most midpoint text p own old new → AppendsProgress false defensive width most midpoint values p None own old new
appends_unit old new width most midpoint own text first second values p h is shown given =
    let apart : text ≡ first ++ (codes " " ++ second) = is ∙ append_assoc first (codes " ") second in
    let one = printable-parts first (codes " " ++ second) (ap is_printable (sym apart) ∙ h) in
    let two = printable-parts (codes " ") second one.1 in
    let size : length text ≡ length first + 1 + length second = omega (arith, ap length apart, length-append first (codes " " ++ second), length-append (codes " ") second) in
    let same : end_of_values old.width (piece text ∷ []) ≡ end_of_values old.width values =
    (let e : end_of_values old.width (piece text ∷ []) ≡ end_of_values old.width (piece first ∷ piece (codes " ") ∷ piece second ∷ []) =
    omega (arith, size, width-printable text h, width-printable first one.0, width-printable (codes " ") refl, width-printable second two.1) in e)
    ∙ ap (end_of_values old.width) (sym shown) ∙ ap (λ n. capped (old.width + n)) (columns_of-in_color false (spaces 1 ∷ values)) in
    appends_progress old new width most midpoint own text first (codes " " ∷ second ∷ []) values p one.0 (refl, (two.1, tt)) apart shown same given

-- of a progress in this unit, if it has one
pub draws_by : (options : Options) (midpoint : ℕ) (value : Value) (unit : Option Unit) (throughput : Option Throughput) (time : Option TaskTime) (own : ℕ) (old new : LineWriter)
    → options.colored ≡ false → time ≡ None → value.unit ≡ unit
    → AppendsProgress false options.defensive options.terminal_dimensions.0 options.bar_columns midpoint (values_by options.defensive (option_map measure_of unit) (progress_of value) throughput) (progress_of value) None own old new
    → AppendsProgress options.colored options.defensive options.terminal_dimensions.0 options.bar_columns midpoint (values_of options.defensive (progress_of value) throughput) (progress_of value) time own old new
draws_by options midpoint value unit throughput time own old new plain untimed is h =
    let p = progress_of value in
    let width = options.terminal_dimensions.0 in
    let most = options.bar_columns in
    let values = λ (u : Option Unit). values_by options.defensive (option_map measure_of u) p throughput in
    subst (λ (u : Option Unit). AppendsProgress options.colored options.defensive width most midpoint (values u) p time own old new) (sym is)
    (subst (λ (t : Option TaskTime). AppendsProgress options.colored options.defensive width most midpoint (values unit) p t own old new) (sym untimed)
    (subst (λ (colored : Bool). AppendsProgress colored options.defensive width most midpoint (values unit) p None own old new) (sym plain) h))
