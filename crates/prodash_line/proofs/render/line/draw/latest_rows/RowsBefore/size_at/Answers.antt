use Rattle.std.proofs.Common.{ℕ, subst, sym}
use Rattle.prodash_base.specs.Rows.{row_of}
use Rattle.prodash_line.specs.declared.render.line.draw.latest_rows.LineSize.{LineSize}
use Rattle.prodash_line.specs.plumbing.KeptLines.{IsPlaced, line_size}
use Rattle.prodash_line.proofs.render.line.draw.latest_rows.RowsBefore.size_at.Goals as goal

pub returns-clause-line : goal.returns-clause-line
returns-clause-line c = λ options midpoint bytes among.
    let row = row_of c.args.row.now in
    let own = c.is_line_of.ensures c.if-not-is_line_of.false options midpoint bytes among in
    subst (λ (start : ℕ). IsPlaced options midpoint row bytes start c.size-size.result) c.if-start.false
    (subst (λ (size : LineSize). IsPlaced options midpoint row bytes c.start.result size) (sym c.size-size.ensures.size)
    (subst (λ (start : ℕ). IsPlaced options midpoint row bytes start (line_size c.args.line.now)) (sym c.start.ensures.start) own))
