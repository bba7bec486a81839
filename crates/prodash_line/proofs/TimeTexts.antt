-- What a row says of its time: printable ASCII characters.
use Rattle.std.proofs.Common.{◌≡◌, ℕ, Bool, true, false, cond, nat_lt, ◌-◌, ◌/◌, ◌%◌, List, [], ◌∷◌, ◌++◌, codes, length, refl, sym, ap, subst, ◌∙◌, Option, Some, None}
use Rattle.std.specs.Fmt.{decimal}
use Rattle.prodash_base.specs.Numerals.{last_digits}
use Rattle.prodash_base.specs.Times.{in_parts, seconds_text, left_text, stalled_text, elapsed_text, time_text}
use Rattle.prodash_base.specs.declared.timing.task_time.TaskTime.{TaskTime}
use Rattle.prodash_line.specs.declared.render.line.draw.line_writer.LineWriter.{LineWriter}
use Rattle.prodash_line.specs.DrawnLines.{drawn_chars}
use Rattle.prodash_line.specs.Lines.{piece, in_color}
use Rattle.prodash_line.specs.ProgressRows.{without_remaining, elapsed_alone, first_fitting, fitting_time}
use Rattle.prodash_line.specs.plumbing.RowWriting.{AppendsTime}
use Rattle.prodash_line.specs.plumbing.Writing.{is_printable, Appends}
use Rattle.prodash_line.proofs.Columns.{printable-append, printable-either, printable-decimal, printable-last_digits, chars-printable}
use Rattle.prodash_line.proofs.DrawnTexts.{printable_as_is}

printable-parts_of : (n m : ℕ) (unit smaller : List ℕ) → is_printable unit ≡ true → is_printable smaller ≡ true → is_printable (in_parts n unit m smaller) ≡ true
printable-parts_of n m unit smaller h i =
    printable-append ((decimal n ++ unit) ++ last_digits 2 m) smaller
    (printable-append (decimal n ++ unit) (last_digits 2 m) (printable-append (decimal n) unit (printable-decimal n) h) (printable-last_digits 2 m)) i

printable-seconds : (s : ℕ) → is_printable (seconds_text s) ≡ true
printable-seconds s =
    let hours = in_parts (s / 3600) (codes "h") (s / 60 % 60) (codes "m") in
    let days = in_parts (s / 86400) (codes "d") (s / 3600 % 24) (codes "h") in
    let minutes = in_parts (s / 60) (codes "m") (s % 60) (codes "s") in
    let long = cond (nat_lt s 86400) hours days in
    printable-either (nat_lt s 60) (decimal s ++ codes "s") (cond (nat_lt s 3600) minutes long)
    (printable-append (decimal s) (codes "s") (printable-decimal s) refl)
    (printable-either (nat_lt s 3600) minutes long (printable-parts_of (s / 60) (s % 60) (codes "m") (codes "s") refl refl)
    (printable-either (nat_lt s 86400) hours days (printable-parts_of (s / 3600) (s / 60 % 60) (codes "h") (codes "m") refl refl)
    (printable-parts_of (s / 86400) (s / 3600 % 24) (codes "d") (codes "h") refl refl)))

printable-left : (remaining : Option ℕ) → is_printable (left_text remaining) ≡ true
printable-left None = refl
printable-left (Some seconds) =
    printable-append (codes ", " ++ seconds_text seconds) (codes " left")
    (printable-append (codes ", ") (seconds_text seconds) refl (printable-seconds seconds)) refl

printable-stalled : (stalled : Option ℕ) → is_printable (stalled_text stalled) ≡ true
printable-stalled None = refl
printable-stalled (Some seconds) = printable-append (codes ", no step for ") (seconds_text seconds) refl (printable-seconds seconds)

printable-elapsed : (has_finished : Bool) (seconds : ℕ) → is_printable (elapsed_text has_finished seconds) ≡ true
printable-elapsed false seconds = printable-seconds seconds
printable-elapsed true seconds = printable-append (codes "in ") (seconds_text seconds) refl (printable-seconds seconds)

printable-time_text : (t : TaskTime) → is_printable (time_text t) ≡ true
printable-time_text t =
    printable-append (elapsed_text t.has_finished t.elapsed ++ left_text t.remaining) (stalled_text t.stalled)
    (printable-append (elapsed_text t.has_finished t.elapsed) (left_text t.remaining) (printable-elapsed t.has_finished t.elapsed) (printable-left t.remaining))
    (printable-stalled t.stalled)

printable-spaced : (t : TaskTime) → is_printable (codes " " ++ time_text t) ≡ true
printable-spaced t = printable-append (codes " ") (time_text t) refl (printable-time_text t)

pub printable-fitting_time : (columns : ℕ) (t : TaskTime) → is_printable (fitting_time columns t) ≡ true
printable-fitting_time columns t =
    let without = without_remaining t in
    let alone = elapsed_alone t in
    let last = first_fitting columns (time_text alone ∷ []) in
    let others = first_fitting columns (time_text without ∷ time_text alone ∷ []) in
    printable-either (nat_lt (length (time_text t)) columns) (codes " " ++ time_text t) others (printable-spaced t)
    (printable-either (nat_lt (length (time_text without)) columns) (codes " " ++ time_text without) last (printable-spaced without)
    (printable-either (nat_lt (length (time_text alone)) columns) (codes " " ++ time_text alone) [] (printable-spaced alone) refl))

without_style : (colored : Bool) (text : List ℕ) → in_color colored (piece text ∷ []) ≡ piece text ∷ []
without_style true text = refl
without_style false text = refl

-- so a renderer draws it as it is
pub shows_time : (colored defensive : Bool) (width columns : ℕ) (t : TaskTime) (text : List ℕ) (old new : LineWriter)
    → text ≡ fitting_time columns t → columns ≡ width - old.width → Appends old (piece text ∷ []) new → AppendsTime colored defensive width (Some t) old new
shows_time colored defensive width columns t text old new is fits h =
    let shown = fitting_time (width - old.width) t in
    let printable = printable-fitting_time (width - old.width) t in
    let same : text ≡ drawn_chars defensive shown = is ∙ ap (λ n. fitting_time n t) fits ∙ sym (chars-printable shown printable) ∙ printable_as_is defensive shown printable in
    let line : piece text ∷ [] ≡ in_color colored (piece (drawn_chars defensive shown) ∷ []) = ap (λ x. piece x ∷ []) same ∙ sym (without_style colored (drawn_chars defensive shown)) in
    subst (λ pieces. Appends old pieces new) line h
