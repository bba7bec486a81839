use Rattle.std.proofs.Common.{◌+◌, refl, arith}
use Rattle.prodash_line.specs.ProgressRows.{bar_with}
use Rattle.prodash_line.proofs.StyledBars.{bar_columns_sum}
use Rattle.prodash_line.proofs.WholeLines.{appends_all}
use Rattle.prodash_line.proofs.render.line.draw.line_writer.LineWriter.push_whole_bar.Goals as goal

pub returns-in_ok-push_bar-in-Columns-clause-whole : goal.returns-in_ok-push_bar-in-Columns-clause-whole
returns-in_ok-push_bar-in-Columns-clause-whole c is =
    let a = c.args in
    let line = c.in_ok-push_bar-in-Columns.ensures.line in
    appends_all a.self.now _ c.in-Columns.left (a.cells + 4) (bar_with a.style a.cells a.filled) c.in-Columns.is (bar_columns_sum a.style a.cells a.filled c.requires.within) (omega arith) (omega arith)
    c.in_ok-push_bar-in-Columns.ensures.bytes (omega (arith, c.saturating_add-self.ensures, line.width)) line.limit refl
