use Rattle.std.proofs.Common.{◌≡◌, ℕ, ◌+◌, ◌-◌, ◌≤◌, List, ◌++◌, length, drop, map, take, sym, ap, ◌∙◌, arith}
use Rattle.std.proofs.lemmas.List.{length-map, length-take-le}
use Rattle.prodash_tui.specs.declared.cell.Cell.{Cell}
use Rattle.prodash_tui.specs.Cells.{cell_of}
use Rattle.prodash_tui.specs.Rows.{front, healed, splice}
use Rattle.prodash_tui.proofs.PrintableTexts.{printed_row, take_fewer}
use Rattle.prodash_tui.proofs.row.Row.draw_printable.Goals as goal

-- the characters that are written are those that have room
some : (c : goal.After-heal_behind) → take c.min.result c.args.text.now ≡ take (c.args.end - c.args.x) c.args.text.now
some c = take_fewer c.min.result (c.args.end - c.args.x) c.args.text.now (omega arith)

pub returns-clause-cells : goal.returns-clause-cells
returns-clause-cells c =
    let x = c.args.x in
    let old = c.args.self.now in
    let split = front x old ++ drop x old in
    let new = map (cell_of c.args.style) (take c.min.result c.args.text.now) in
    let count : length (take c.min.result c.args.text.now) ≡ length new = sym (length-map (take c.min.result c.args.text.now) (cell_of c.args.style)) in
    let written : c.write_printable.new.cells.items ≡ take x split ++ (new ++ drop (x + length new) split) =
    c.write_printable.ensures
    ∙ ap (λ (n : ℕ). take x c.self.inside.cells.items ++ (new ++ drop (x + n) c.self.inside.cells.items)) count
    ∙ ap (λ (cells : List Cell). take x cells ++ (new ++ drop (x + length new) cells)) (c.self.view_is ∙ c.heal_before.ensures) in
    let fits : x + length new ≤ length old = omega (arith, length-take-le c.min.result c.args.text.now (omega arith)) in
    c.heal_behind.ensures
    ∙ ap (λ (n : ℕ). take (x + n) c.write_printable.new.cells.items ++ healed (drop (x + n) c.write_printable.new.cells.items)) count
    ∙ printed_row x new old fits c.write_printable.new.cells.items written
    ∙ ap (λ (t : List ℕ). splice x (map (cell_of c.args.style) t) old) (some c)

pub returns-clause-behind : goal.returns-clause-behind
returns-clause-behind c = ap (λ (t : List ℕ). c.args.x + length t) (some c)
