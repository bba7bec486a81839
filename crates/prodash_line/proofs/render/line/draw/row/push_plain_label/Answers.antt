use Rattle.std.proofs.Common.{rules, ◌≡◌, Option, None, Some, false, refl, ap, sym, ◌∙◌, append-nil}
use Rattle.std.specs.Prelude.{is_some}
use Rattle.prodash_base.specs.Displays.{amount, unit_text}
use Rattle.prodash_base.specs.Kinds.{kind_shown}
use Rattle.prodash_base.specs.declared.unit.display.Mode.{Mode}
use Rattle.prodash_line.specs.plumbing.RowWriting.{DrawsLabelled, DrawsInUnit}
use Rattle.prodash_line.proofs.LabelledTexts.{draws_label}
use Rattle.prodash_line.proofs.PlainProgress.{drawn_as}
use Rattle.prodash_line.proofs.render.line.draw.row.push_plain_label.Goals as goal

none_is : (mode : Option Mode) → is_some mode ≡ false → mode ≡ None
none_is None e = refl
none_is (Some mode) e = cc

pub returns-then-is_none-clause-drawn : goal.returns-then-is_none-clause-drawn
returns-then-is_none-clause-drawn c =
    let old = c.args.out.now in
    let new = c.push_labelled.new.out in
    let drawn = c.args.drawn.now in
    let unit = c.args.unit.now in
    let plain : unit.mode ≡ None = sym c.mode.ensures ∙ none_is c.mode.result c.if-is_none.ensures in
    let a = amount drawn.value.now.step drawn.value.now.done_at drawn.throughput in
    let label : c.as_bytes.result.now ≡ unit_text (kind_shown unit.kind) unit.mode a =
    c.as_bytes.ensures.value ∙ sym (append-nil c.args.label.now)
    ∙ ap (λ kind. unit_text (kind_shown kind) None a) (sym c.requires.kind) ∙ ap (λ mode. unit_text (kind_shown unit.kind) mode a) (sym plain) in
    drawn_as c.in_ok-plain.plain old new (DrawsLabelled drawn c.as_bytes.result.now) (DrawsInUnit drawn unit)
    (λ own given. draws_label old new drawn unit c.args.label c.as_bytes.result.now c.args.done_at own c.requires.bound c.requires.kind c.requires.nothing label given) c.in_ok-plain.ensures

pub returns-clause-drawn : goal.returns-clause-drawn
returns-clause-drawn c =
    let old = c.args.out.now in
    let new = c.push_labelled-2.new.out in
    let drawn = c.args.drawn.now in
    let unit = c.args.unit.now in
    let a = amount drawn.value.now.step drawn.value.now.done_at drawn.throughput in
    let label : c.as_bytes-2.result.now ≡ unit_text (kind_shown unit.kind) unit.mode a = c.as_bytes-2.ensures.value ∙ search rules in
    drawn_as c.in_ok-plain-2.plain old new (DrawsLabelled drawn c.as_bytes-2.result.now) (DrawsInUnit drawn unit)
    (λ own given. draws_label old new drawn unit c.args.label c.as_bytes-2.result.now c.args.done_at own c.requires.bound c.requires.kind c.requires.nothing label given) c.in_ok-plain-2.ensures
