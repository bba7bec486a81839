use Rattle.std.proofs.Common.{refl, arith}
use Rattle.prodash_line.proofs.PaddedValues.{appends_padded_texts}
use Rattle.prodash_line.proofs.render.line.draw.line_writer.LineWriter.push_whole_pair.Goals as goal

pub returns-in_ok-push_padded_pair-in-Columns-clause-whole : goal.returns-in_ok-push_padded_pair-in-Columns-clause-whole
returns-in_ok-push_padded_pair-in-Columns-clause-whole c is =
    let a = c.args in
    appends_padded_texts a.self.now _ c.in-Columns.left a.padding _ a.colored a.values.now a.unit.now c.requires.values c.requires.unit c.requires.some (omega arith) c.in-Columns.is (omega arith) (omega arith)
    c.in_ok-push_padded_pair-in-Columns.ensures (omega (arith, c.saturating_add-self.ensures)) refl refl
