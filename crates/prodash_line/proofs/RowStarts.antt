-- What a row begins with: spaces and its name.
use Rattle.std.proofs.Common.{◌≡◌, ℕ, Bool, [], Option, subst}
use Rattle.prodash_base.specs.Rows.{PathRow}
use Rattle.prodash_line.specs.declared.render.line.draw.line_writer.LineWriter.{LineWriter}
use Rattle.prodash_line.specs.declared.render.line.draw.layout.Layout.{Layout}
use Rattle.prodash_line.specs.Lines.{in_color}
use Rattle.prodash_line.specs.plumbing.OverwriteBytes.{on_row}
use Rattle.prodash_line.specs.ProgressRows.{head_of}
use Rattle.prodash_line.specs.plumbing.Writing.{Appends, Begun}
use Rattle.prodash_line.proofs.LineWriting.{begun_then, begun_to}

-- a line that is begun, and goes on with the spaces and the name of the row
pub head_begun : {limit : Option ℕ} {layout : Layout} {a b : LineWriter} (old : LineWriter) (colored defensive : Bool) (row : PathRow) (to : Option ℕ) (at : Layout) → limit ≡ to → layout ≡ at
    → Begun limit (on_row layout old) [] a → Appends a (in_color colored (head_of defensive row)) b → Begun to (on_row at old) (in_color colored (head_of defensive row)) b
head_begun {limit} {layout} {a} {b} old colored defensive row to at is on h i =
    begun_then (begun_to limit to is (subst (λ (l : Layout). Begun limit (on_row l old) [] a) on h)) i
