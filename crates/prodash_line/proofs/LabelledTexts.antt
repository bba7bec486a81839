-- A fraction and a label, which are the values and the unit of a progress.
use Rattle.std.proofs.Common.{◌≡◌, ℕ, Bool, true, false, List, [], ◌∷◌, ◌++◌, Option, Some, codes, refl, sym, ap, ◌∙◌, append_assoc}
use Rattle.std.specs.Fmt.{decimal}
use Rattle.std.specs.Borrow.{Bor}
use Rattle.prodash_base.specs.Displays.{amount, values_text, unit_text}
use Rattle.prodash_base.specs.Kinds.{kind_shown}
use Rattle.prodash_base.specs.Rows.{RowProgress, progress_of}
use Rattle.prodash_base.specs.Units.{measure_of}
use Rattle.prodash_base.specs.declared.unit.display.Mode.{Mode}
use Rattle.prodash_base.specs.declared.unit.display.Throughput.{Throughput}
use Rattle.prodash_base.specs.declared.unit.kind.Kind.{Kind}
use Rattle.prodash_base.specs.declared.unit.kind.Kind.TheVariants as kinds
use Rattle.prodash_base.specs.declared.unit.units.Unit.{Unit}
use Rattle.prodash_line.specs.DrawnLines.{drawn_chars}
use Rattle.prodash_line.specs.Lines.{piece, in_color}
use Rattle.prodash_line.specs.ProgressRows.{fraction_of, values_in}
use Rattle.prodash_line.specs.declared.render.line.draw.line_writer.LineWriter.{LineWriter}
use Rattle.prodash_line.specs.declared.render.line.draw.row.DrawnProgress.{DrawnProgress}
use Rattle.prodash_line.specs.plumbing.RowWriting.{NothingBefore, DrawsLabelled, DrawsInUnit}
use Rattle.prodash_line.specs.plumbing.Writing.{is_printable}
use Rattle.prodash_line.proofs.Columns.{chars-printable, printable-append, printable-parts}
use Rattle.prodash_line.proofs.DrawnTexts.{printable_as_is}
use Rattle.prodash_line.proofs.PlainProgress.{appends_unit}
use Rattle.prodash_line.proofs.WrittenDigits.{printable_fraction}

-- the texts of a unit whose characters are printable
pub texts_shown : (defensive : Bool) (unit : Unit) (p : RowProgress) (t : Option Throughput) (text values name : List ℕ) → values ≡ values_text (kind_shown unit.kind) unit.mode (amount p.counter p.bound t)
    → name ≡ unit_text (kind_shown unit.kind) unit.mode (amount p.counter p.bound t) → is_printable text ≡ true → text ≡ (values ++ codes " ") ++ name
    → in_color false (values_in defensive (measure_of unit) p t) ≡ piece values ∷ piece (codes " ") ∷ piece name ∷ []
texts_shown defensive unit p t text values name v n h is =
    let one = printable-parts values (codes " " ++ name) (ap is_printable (sym (is ∙ append_assoc values (codes " ") name)) ∙ h) in
    let two = printable-parts (codes " ") name one.1 in
    let values_drawn : drawn_chars defensive (values_text (kind_shown unit.kind) unit.mode (amount p.counter p.bound t)) ≡ values =
    ap (drawn_chars defensive) (sym v) ∙ sym (printable_as_is defensive values one.0) ∙ chars-printable values one.0 in
    let name_drawn : drawn_chars defensive (unit_text (kind_shown unit.kind) unit.mode (amount p.counter p.bound t)) ≡ name =
    ap (drawn_chars defensive) (sym n) ∙ sym (printable_as_is defensive name two.1) ∙ chars-printable name two.1 in
    λ i. piece (values_drawn i) ∷ piece (codes " ") ∷ piece (name_drawn i) ∷ []

-- the values of a label that shows nothing before them
label_values : (kind : Kind) (mode : Option Mode) (name : Bor (List ℕ)) (step bound : ℕ) (t : Option Throughput) → kind ≡ kinds.Label name → NothingBefore mode
    → fraction_of step (Some bound) ≡ values_text (kind_shown kind) mode (amount step (Some bound) t)
label_values kind mode name step bound t is nothing =
    sym (ap (λ k. values_text (kind_shown k) mode (amount step (Some bound) t)) is
    ∙ ap (λ text. text ++ decimal step ++ (codes "/" ++ decimal bound)) (nothing (kind_shown (kinds.Label name)) step (Some bound) t))

pub draws_label : (old new : LineWriter) (d : DrawnProgress) (unit : Unit) (name : Bor (List ℕ)) (label : List ℕ) (bound own : ℕ) → d.value.now.done_at ≡ Some bound → unit.kind ≡ kinds.Label name → NothingBefore unit.mode
    → label ≡ unit_text (kind_shown unit.kind) unit.mode (amount d.value.now.step d.value.now.done_at d.throughput) → DrawsLabelled d label own old new → DrawsInUnit d unit own old new
draws_label old new d unit name label bound own bounded is nothing l given defensive =
    let p = progress_of d.value.now in
    let fraction = fraction_of p.counter p.bound in
    let text = fraction ++ (codes " " ++ label) in
    let printable : is_printable text ≡ true = printable-append fraction (codes " " ++ label) (printable_fraction p.counter p.bound) (printable-append (codes " ") label refl given.printable) in
    let values : fraction ≡ values_text (kind_shown unit.kind) unit.mode (amount p.counter p.bound d.throughput) =
    ap (fraction_of p.counter) bounded ∙ label_values unit.kind unit.mode name p.counter bound d.throughput is nothing
    ∙ ap (λ b. values_text (kind_shown unit.kind) unit.mode (amount p.counter b d.throughput)) (sym bounded) in
    let apart : text ≡ (fraction ++ codes " ") ++ label = sym (append_assoc fraction (codes " ") label) in
    appends_unit old new d.options.now.terminal_dimensions.0 d.options.now.bar_columns d.midpoint own text fraction label (values_in defensive (measure_of unit) p d.throughput) p printable
    apart (texts_shown defensive unit p d.throughput text fraction label values l printable apart) given.text_follows
