use Rattle.std.proofs.Common.{refl, sym, ◌∙◌}
use Rattle.prodash_tui.proofs.DrawnRows.{settled, settled_shown, shown_calls}
use Rattle.prodash_tui.proofs.drawn_row.DrawnRow.cells.Goals as goal

pub invariant_of-self-2 : goal.invariant_of-self-2
invariant_of-self-2 c = settled c.self.inside c.settle.new.cells c.settle.new.calls c.self.invariant c.settle.ensures.cells c.settle.ensures.calls

pub returns : goal.returns
returns c =
    let same = settled_shown c.self.inside c.settle.new.cells c.settle.new.calls c.self.invariant c.if-not-self.false c.settle.ensures.cells c.settle.ensures.calls in (
      (refl, (λ _. tt), same ∙ c.self.view_is),
      record {
        stays = tt;
        value = c.settle.ensures.cells ∙ sym (shown_calls c.self.inside c.if-not-self.false) ∙ c.self.view_is;
      },
    )
