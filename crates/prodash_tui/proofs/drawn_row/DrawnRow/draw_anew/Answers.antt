use Rattle.std.proofs.Common.{◌≡◌, ◌^◌, ◌<◌, length, take, ap, sym, ◌∙◌, arith}
use Rattle.prodash_tui.specs.plumbing.Calls.{Drawing, IsWithin, with_word}
use Rattle.prodash_tui.specs.plumbing.DrawnRows.{drawn_cells}
use Rattle.prodash_tui.proofs.DrawnRows.{drawn_anew, length-shown, length-with_word, shown_anew}
use Rattle.prodash_tui.proofs.drawn_row.DrawnRow.draw_anew.Goals as goal

pub draw-requires-2-clause-narrow : goal.draw-requires-2-clause-narrow
draw-requires-2-clause-narrow c =
    let size : length c.args.self.now ≡ length c.self.inside.cells = sym (ap length c.self.view_is) ∙ length-shown c.self.inside c.self.invariant in
    let narrow : length c.self.inside.cells < 2 ^ 16 = c.self.invariant.narrow in
    omega (arith, c.requires.end)

-- the call
abbrev call_of : goal.After-draw-2 → Drawing
call_of c = record { word = c.args.word; columns = c.args.columns; text = c.args.text.now }

within : (c : goal.After-draw-2) → IsWithin (length c.self.inside.cells) c.args.columns
within c =
    let size : length c.args.self.now ≡ length c.self.inside.cells = sym (ap length c.self.view_is) ∙ length-shown c.self.inside c.self.invariant in
    record { order = c.requires.order; end = omega (arith, c.requires.end) }

drawn : (c : goal.After-draw-2)
    → c.draw-2.new.self ≡ with_word c.args.word c.args.columns c.args.text.now (drawn_cells (length c.self.inside.cells) (take c.self.inside.same c.self.inside.calls))
drawn c = c.draw-2.ensures.cells ∙ ap (with_word c.args.word c.args.columns c.args.text.now) c.remember-self-inside.ensures.cells

pub invariant_of-self-2 : goal.invariant_of-self-2
invariant_of-self-2 c =
    drawn_anew c.self.inside c.self.invariant c.if-not-self.false (call_of c) (within c) c.draw-2.new.self c.remember-self-inside.new.calls c.remember-self-inside.result
    (length c.as_slice.result.now) c.remember-self-inside.new.changes (drawn c) c.remember-self-inside.ensures.kept c.remember-self-inside.ensures.more (ap length c.as_slice.ensures)

pub returns-clause-cells : goal.returns-clause-cells
returns-clause-cells c =
    shown_anew c.self.inside c.self.invariant c.if-not-self.false (call_of c) (within c) c.draw-2.new.self c.remember-self-inside.new.calls c.remember-self-inside.result
    (length c.as_slice.result.now) c.remember-self-inside.new.changes (drawn c) c.remember-self-inside.ensures.kept c.remember-self-inside.ensures.more (ap length c.as_slice.ensures)
    ∙ ap (with_word c.args.word c.args.columns c.args.text.now) c.self.view_is

pub returns-clause-width : goal.returns-clause-width
returns-clause-width c =
    ap length (returns-clause-cells c)
    ∙ length-with_word c.args.word c.args.columns c.args.text.now c.args.self.now (record { order = c.requires.order; end = c.requires.end })
