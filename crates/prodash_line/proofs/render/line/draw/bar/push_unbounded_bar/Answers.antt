use Rattle.std.proofs.Common.{◌≡◌, ◌-◌, ◌^◌, [], ◌∷◌, ◌++◌, ap, ◌∙◌, arith}
use Rattle.std.specs.Prelude.{min, codes}
use Rattle.std.specs.Bool.{then_some}
use Rattle.prodash_line.specs.Lines.{piece, styled}
use Rattle.prodash_line.specs.plumbing.Writing.{style_of_length, open_bytes, reset_bytes}
use Rattle.prodash_line.proofs.NumberedCells.{printable-numbered_cells, length-numbered_cells, cells_counted}
use Rattle.prodash_line.specs.ProgressRows.{numbered_cells}
use Rattle.prodash_line.proofs.LineWriting.{appends_as, appends_then, appends_counted}
use Rattle.prodash_line.proofs.render.line.draw.bar.push_unbounded_bar.Goals as goal

pub returns : goal.returns
returns c =
    let end = c.saturating_add-end.result in
    let n : end - c.args.step ≡ min (c.args.columns - 3) (2 ^ 64 - 1 - c.args.step) = omega (arith, c.saturating_add-end.ensures, c.from.ensures, c.saturating_sub.ensures) in
    let length = end - c.args.step in
    let counted = c.count_printable-count.ensures in
    let count = c.count_printable-count.result in
    let style = then_some c.args.colored c.args.style in
    let cells = numbered_cells c.args.step length in
    let shown : c.style_of_length-style.result ≡ style_of_length style count =
    c.style_of_length-style.ensures ∙ ap (λ s. style_of_length s c.from-2.result) c.then_some.ensures ∙ ap (style_of_length style) c.from-2.ensures in
    appends_as (ap (λ k. piece (codes " [") ∷ styled style (numbered_cells c.args.step k) ∷ piece (codes "]") ∷ []) n)
    (appends_then c.in_ok-push_printable.ensures
    (appends_then (appends_counted style cells length count (printable-numbered_cells c.args.step length) (length-numbered_cells c.args.step length) counted
    (c.in_ok-open_style.ensures.bytes ∙ ap (λ s. c.count_printable-count.new.self.bytes ++ open_bytes s) shown) c.in_ok-open_style.ensures.line
    (c.in_ok-push_numbered_cells.ensures.bytes ∙ ap (λ t. c.open_style.new.self.bytes ++ t) (cells_counted c.args.step end count c.from-3.result c.from-3.ensures counted.within (omega (arith, c.saturating_add-end.ensures))))
    c.in_ok-push_numbered_cells.ensures.line
    (c.in_ok-reset_style.ensures.bytes ∙ ap (λ s. c.push_numbered_cells.new.out.bytes ++ reset_bytes s) shown) c.in_ok-reset_style.ensures.line)
    c.in_ok-push_printable-2.ensures))
