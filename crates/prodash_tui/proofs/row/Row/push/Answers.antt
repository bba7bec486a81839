use Rattle.std.proofs.Common.{ℕ, ap, ◌∙◌}
use Rattle.prodash_line.specs.CellRows.{char_columns}
use Rattle.prodash_tui.specs.plumbing.Writing.{after_char}
use Rattle.prodash_tui.proofs.WrittenTexts.{after_char-two}
use Rattle.prodash_tui.proofs.row.Row.push.Goals as goal

pub returns-clause-step : goal.returns-clause-step
returns-clause-step c =
    let own = c.args.c in
    c.push_columns.ensures.step
    ∙ ap (λ (n : ℕ). after_char c.args.style n own (c.args.self.now, c.args.pen.now)) c.columns_of.ensures.value
    ∙ after_char-two c.args.style (char_columns own) own (c.args.self.now, c.args.pen.now)
