use Rattle.std.proofs.Common.{rules, ◌≡◌, List, ℕ, true, ◌++◌, codes, refl, sym, ◌∙◌}
use Rattle.prodash_base.specs.Displays.{amount, values_text, unit_text}
use Rattle.prodash_base.specs.Kinds.{kind_shown}
use Rattle.prodash_base.specs.Rows.{progress_of}
use Rattle.prodash_base.specs.Units.{measure_of}
use Rattle.prodash_line.specs.plumbing.RowWriting.{AppendsText, DrawsInUnit}
use Rattle.prodash_line.specs.ProgressRows.{values_in}
use Rattle.prodash_line.specs.plumbing.Writing.{is_printable}
use Rattle.prodash_line.proofs.LabelledTexts.{texts_shown}
use Rattle.prodash_line.proofs.PlainProgress.{drawn_as, appends_unit}
use Rattle.prodash_line.proofs.render.line.draw.row.push_plain_values.Goals as goal

pub push_plain_text-requires-clause-printable : goal.push_plain_text-requires-clause-printable
push_plain_text-requires-clause-printable c = sym c.is_all_printable.ensures ∙ c.if-not-is_all_printable.false

pub returns-clause-drawn : goal.returns-clause-drawn
returns-clause-drawn c =
    let old = c.args.out.now in
    let new = c.push_plain_text.new.out in
    let drawn = c.args.drawn.now in
    let width = drawn.options.now.terminal_dimensions.0 in
    let most = drawn.options.now.bar_columns in
    let unit = c.args.unit.now in
    let p = progress_of drawn.value.now in
    let text : List ℕ = c.as_bytes-text.result.now in
    let values = values_text (kind_shown unit.kind) unit.mode (amount p.counter p.bound drawn.throughput) in
    let name = unit_text (kind_shown unit.kind) unit.mode (amount p.counter p.bound drawn.throughput) in
    let printable : is_printable text ≡ true = sym c.is_all_printable.ensures ∙ c.if-not-is_all_printable.false in
    let is : text ≡ (values ++ codes " ") ++ name = c.as_bytes-text.ensures.value ∙ search rules in
    drawn_as c.in_ok-plain.plain old new (AppendsText width most drawn.midpoint text p) (DrawsInUnit drawn unit)
    (λ own given defensive. appends_unit old new width most drawn.midpoint own text values name (values_in defensive (measure_of unit) p drawn.throughput) p printable
    is (texts_shown defensive unit p drawn.throughput text values name refl refl printable is) given) c.in_ok-plain.ensures
