use Rattle.std.proofs.Common.{◌≤◌, ◌-◌, sym, ap, ◌∙◌, subst, arith}
use Rattle.prodash_base.specs.Rows.{progress_of}
use Rattle.prodash_line.specs.ProgressRows.{bar_columns}
use Rattle.prodash_line.specs.plumbing.RowWriting.{DrawsText, OrNothing, plain_progress, whole_text}
use Rattle.prodash_line.proofs.PlainProgress.{appends_plain, drawn_if}
use Rattle.prodash_line.proofs.render.line.draw.row.push_plain_text.Goals as goal

pub returns : goal.returns
returns c =
    let old = c.args.out.now in
    let new = c.push_progress.new.self in
    let drawn = c.args.drawn.now in
    let width = drawn.options.now.terminal_dimensions.0 in
    let parts = c.args.text.now in
    let text = whole_text parts in
    let own = c.saturating_add-own.result in
    let end = c.max-end.result in
    let left = c.bar_columns-left.result in
    let most = drawn.options.now.bar_columns in
    let filled = c.filled_cells.result in
    let four : 4 ≤ left = omega (arith, c.if-left.false) in
    let draws = DrawsText drawn parts in
    subst (OrNothing old new draws) (sym c.then_some.ensures)
    (drawn_if c.in_ok-has_room.has_room own (plain_progress (end - own) text (left - 4) filled) old new draws
    (λ whole. appends_plain old new width most drawn.midpoint own end left c.columns-columns.result (left - 4) filled c.args.done_at text
    (progress_of drawn.value.now) c.requires.printable
    c.columns-columns.ensures (omega (arith, c.saturating_add-own.ensures, c.saturating_add.ensures, c.width.ensures)) c.max-end.ensures (c.bar_columns-left.ensures ∙ ap (bar_columns most) c.saturating_sub.ensures) four
    (omega arith) c.requires.bound (λ i. left - 4) c.filled_cells.ensures.value c.filled_cells.ensures.within whole)
    c.in_ok-has_room.ensures)
