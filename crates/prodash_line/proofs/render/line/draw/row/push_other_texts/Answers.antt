use Rattle.std.proofs.Common.{◌≡◌, true, List, ℕ, [], ◌∷◌, chars, ap, subst, ◌∙◌, arith}
use Rattle.std.specs.Bool.{then_some}
use Rattle.std.specs.Prelude.{string_bytes}
use Rattle.prodash_line.specs.DrawnLines.{drawn_chars}
use Rattle.prodash_line.specs.Lines.{piece, spaces, styled}
use Rattle.prodash_line.specs.plumbing.RowWriting.{drawn_texts, end_of_values, PadsTo}
use Rattle.prodash_line.proofs.LineWriting.{appends_as}
use Rattle.prodash_line.proofs.RowLines.{unit_end, padded_appends}
use Rattle.prodash_line.proofs.render.line.draw.row.push_other_texts.Goals as goal

pub returns : goal.returns
returns c =
    let d = c.args.drawn.now in
    let o = d.options.now in
    let old = c.args.out.now in
    let new = c.push_pair.new.self in
    let values = chars c.in_ok-values.values.text.now in
    let unit = chars c.in_ok-name.name.text.now in
    let own = c.saturating_add-own.result in
    let drawn = drawn_chars o.defensive in
    let values_are : values ≡ drawn (string_bytes c.args.texts.now.values) = c.in_ok-values.ensures.text ∙ ap drawn c.as_str-values.ensures.value in
    let unit_is : unit ≡ drawn (string_bytes c.args.texts.now.unit) = c.in_ok-name.ensures.text ∙ ap drawn c.as_str-name.ensures.value in
    let ends : own ≡ end_of_values old.width (drawn_texts true values unit) =
    unit_end values unit old.width c.in_ok-values.values.width c.in_ok-name.name.width own c.in_ok-values.ensures.width c.in_ok-name.ensures.width
    (omega (arith, c.saturating_add-own.ensures, c.saturating_add-3.ensures, c.saturating_add-2.ensures, c.saturating_add.ensures, c.width.ensures)) in
    let shown = appends_as (ap (λ s. styled s values ∷ spaces 1 ∷ piece unit ∷ []) (c.then_some-style.ensures ∙ ap (then_some o.colored) c.values_style.ensures)) c.in_ok-push_pair.ensures in
    let whole : PadsTo o.colored d.midpoint (drawn_texts true values unit) own old new =
    record { ends = ends; padded = padded_appends o.colored d.midpoint own c.saturating_sub.result (drawn_texts true values unit) ends c.saturating_sub.ensures c.in_ok-push_gap.ensures shown } in
    subst (λ (t : List ℕ). PadsTo o.colored d.midpoint (drawn_texts true (drawn (string_bytes c.args.texts.now.values)) t) own old new) unit_is
    (subst (λ (t : List ℕ). PadsTo o.colored d.midpoint (drawn_texts true t unit) own old new) values_are whole)
