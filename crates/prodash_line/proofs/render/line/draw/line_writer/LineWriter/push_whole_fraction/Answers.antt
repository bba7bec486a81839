use Rattle.std.proofs.Common.{refl, arith}
use Rattle.prodash_line.proofs.PaddedValues.{appends_padded_fraction}
use Rattle.prodash_line.proofs.render.line.draw.line_writer.LineWriter.push_whole_fraction.Goals as goal

pub returns-in_ok-push_padded_fraction-in-Columns-clause-whole : goal.returns-in_ok-push_padded_fraction-in-Columns-clause-whole
returns-in_ok-push_padded_fraction-in-Columns-clause-whole c is =
    let a = c.args in
    appends_padded_fraction a.self.now _ c.in-Columns.left a.padding _ a.colored a.step a.done_at (omega arith) (omega (arith, c.requires.count)) c.in-Columns.is (omega arith) (omega arith)
    c.in_ok-push_padded_fraction-in-Columns.ensures (omega (arith, c.saturating_add-self.ensures)) refl refl
