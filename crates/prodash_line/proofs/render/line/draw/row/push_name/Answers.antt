use Rattle.std.proofs.Common.{◌≡◌, ℕ, List, true, chars, [], ◌∷◌, length, refl, ap, sym, ◌∙◌}
use Rattle.std.specs.Bool.{then_some}
use Rattle.prodash_base.specs.Rows.{row_of}
use Rattle.prodash_line.specs.DrawnLines.{drawn_chars}
use Rattle.prodash_line.specs.Lines.{spaces, styled}
use Rattle.prodash_line.specs.TextStyles.{name_style}
use Rattle.prodash_line.specs.plumbing.Writing.{is_printable}
use Rattle.prodash_line.proofs.Columns.{chars-printable}
use Rattle.prodash_line.proofs.DrawnTexts.{printable_as_is}
use Rattle.prodash_line.proofs.LineWriting.{appends_as, appends_since, appends_then}
use Rattle.prodash_line.proofs.render.line.draw.row.push_name.Goals as goal

pub returns-then-is_all_printable : goal.returns-then-is_all_printable
returns-then-is_all_printable c =
    let o = c.args.options.now in
    let name = c.as_str-name.result.now in
    let text = c.as_bytes-bytes.result.now in
    let level : c.from-level.result ≡ length (row_of c.args.row.now).0 = c.from-level.ensures ∙ c.level.ensures.value in
    let printable : is_printable name ≡ true = ap is_printable (sym c.as_bytes-bytes.ensures.value) ∙ sym c.is_all_printable.ensures ∙ c.if-is_all_printable.true in
    let as_is = c.as_bytes-bytes.ensures.value ∙ sym (chars-printable name printable) ∙ printable_as_is o.defensive name printable ∙ ap (drawn_chars o.defensive) c.as_str-name.ensures in
    appends_as (ap (λ n. spaces n ∷ styled c.style_of_name.result text ∷ []) level
    ∙ ap (λ style. spaces (length (row_of c.args.row.now).0) ∷ styled style text ∷ []) c.style_of_name.ensures
    ∙ ap (λ (t : List ℕ). spaces (length (row_of c.args.row.now).0) ∷ styled (then_some o.colored (name_style (row_of c.args.row.now).1.progress)) t ∷ []) as_is)
    c.in_ok-push_printable_behind.ensures

pub returns : goal.returns
returns c =
    let o = c.args.options.now in
    let level : c.from-level.result ≡ length (row_of c.args.row.now).0 = c.from-level.ensures ∙ c.level.ensures.value in
    appends_then (appends_as (ap (λ n. spaces n ∷ []) level) c.in_ok-push_spaces.ensures)
    (appends_since refl (record { width = refl; limit = refl; room = refl })
    (appends_as (ap (λ style. styled style (chars c.in_ok-name.name.text.now) ∷ []) c.style_of_name-2.ensures
    ∙ ap (λ (t : List ℕ). styled (then_some o.colored (name_style (row_of c.args.row.now).1.progress)) t ∷ []) (c.in_ok-name.ensures.text ∙ ap (drawn_chars o.defensive) c.as_str-name.ensures)) c.in_ok-push_drawn.ensures))
