use Rattle.std.proofs.Common.{◌≡◌, ℕ, ◌+◌, ◌<◌, ◌++◌, List, length, get_or, set, drop, map, take, sym, ap, ◌∙◌, arith}
use Rattle.std.proofs.lemmas.List.{take-append-drop, take_all}
use Rattle.prodash_tui.specs.declared.cell.Cell.{Cell}
use Rattle.prodash_tui.specs.Cells.{cell_of}
use Rattle.prodash_tui.proofs.PrintableTexts.{next_written}
use Rattle.prodash_tui.proofs.row.write_printable.Goals as goal

pub loop-k-init : goal.loop-k-init
loop-k-init c =
    sym (take-append-drop c.args.x c.args.cells.now.items)
    ∙ ap (λ (n : ℕ). take c.args.x c.args.cells.now.items ++ drop n c.args.cells.now.items) (let e : c.args.x ≡ c.args.x + 0 = omega arith in e)

pub loop-k-preserved : goal.loop-k-preserved
loop-k-preserved c =
    let cells = c.args.cells.now.items in
    let text = c.args.text.now in
    let k = c.loop-k.k in
    let x = c.args.x in
    let f = cell_of c.args.style in
    let inside : k < length text = omega arith in
    let within : x + k < length cells = omega arith in
    ap (λ (a : Cell). set c.loop-k.cells.items (x + k) a) c.cell_of.ensures
    ∙ ap (λ (cs : List Cell). set cs (x + k) (f (get_or text k 0))) c.loop-k.invariant
    ∙ next_written x k f text cells inside within

pub returns : goal.returns
returns c =
    let text = c.args.text.now in
    let all : c.loop-k.k ≡ length text = omega arith in
    c.loop-k.invariant
    ∙ ap (λ (n : ℕ). take c.args.x c.args.cells.now.items ++ (map (cell_of c.args.style) (take n text) ++ drop (c.args.x + n) c.args.cells.now.items)) all
    ∙ ap (λ (t : List ℕ). take c.args.x c.args.cells.now.items ++ (map (cell_of c.args.style) t ++ drop (c.args.x + length text) c.args.cells.now.items)) (take_all (length text) text (omega arith))
