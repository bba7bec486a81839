use Rattle.std.proofs.Common.{◌+◌, List, length, ap, subst, sym, ◌∙◌}
use Rattle.std.specs.Prelude.{slice_get}
use Rattle.prodash_tui.specs.plumbing.Calls.{Drawing, IsCallOf, with_word}
use Rattle.prodash_tui.proofs.DrawnRows.{drawn_next, length-with_word, shown_calls}
use Rattle.prodash_tui.proofs.drawn_row.DrawnRow.draw.Goals as goal

pub returns-then-is_next-clause-cells : goal.returns-then-is_next-clause-cells
returns-then-is_next-clause-cells c =
    let r = c.self.inside in
    let next : IsCallOf c.args.word c.args.columns c.args.text.now (slice_get r.calls r.same) =
    subst (λ (calls : List Drawing). IsCallOf c.args.word c.args.columns c.args.text.now (slice_get calls r.same)) c.as_slice.ensures (c.is_next.ensures c.if-is_next.true) in
    shown_calls (record r { same = r.same + 1 }) c.if-not-self.false
    ∙ drawn_next r.calls r.same c.args.word c.args.columns c.args.text.now (length r.cells) next
    ∙ ap (with_word c.args.word c.args.columns c.args.text.now) (sym (shown_calls r c.if-not-self.false) ∙ c.self.view_is)

pub returns-then-is_next-clause-width : goal.returns-then-is_next-clause-width
returns-then-is_next-clause-width c =
    ap length (returns-then-is_next-clause-cells c)
    ∙ length-with_word c.args.word c.args.columns c.args.text.now c.args.self.now (record { order = c.requires.order; end = c.requires.end })
