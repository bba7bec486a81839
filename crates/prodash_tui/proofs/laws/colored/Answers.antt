use Rattle.std.proofs.Common.{◌≡◌, ◌<◌, List, [], length, arith}
use Rattle.std.proofs.lemmas.List.Elements.{All-get_or}
use Rattle.prodash_tui.specs.declared.cell.Cell.{Cell}
use Rattle.prodash_tui.specs.Outside.{row_at}
use Rattle.prodash_tui.proofs.ColoredCells.{colored_inside, colored_outside}
use Rattle.prodash_tui.proofs.laws.colored.Goals as goal

pub returns-clause-inside : goal.returns-clause-inside
returns-clause-inside c = λ color area g y x whole within high wide.
    let on : y < length g.rows = omega (arith, whole.high) in
    let width : length (row_at g y) ≡ g.width = All-get_or (λ (row : List Cell). length row ≡ g.width) g.rows y [] on whole.each in
    colored_inside area color g y x within on (omega arith) width

pub returns-clause-outside : goal.returns-clause-outside
returns-clause-outside c = λ color area g small whole cuts y x out. colored_outside area color g y x out
