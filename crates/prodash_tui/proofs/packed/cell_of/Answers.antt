use Rattle.std.proofs.Common.{◌≡◌, lit≤, sym, ap, subst, ◌∙◌, rules}
use Rattle.std.specs.Char.{IsScalar}
use Rattle.prodash_tui.specs.Cells.{cell_of}
use Rattle.prodash_tui.specs.plumbing.PackedCells.{IsPacked, packed_cell, unpacked_cell}
use Rattle.prodash_tui.proofs.PackedCells.{cell_back, is_packed}
use Rattle.prodash_tui.proofs.packed.cell_of.Goals as goal

pub invariant_of-result : goal.invariant_of-result
invariant_of-result c =
    let cell = cell_of c.args.style c.args.c in
    let scalar : IsScalar c.args.c = search rules in
    let code : c.code_of.result ≡ packed_cell cell = c.code_of.ensures in
    subst IsPacked (sym code) (is_packed cell (scalar, lit≤ tt, tt))

pub returns : goal.returns
returns c =
    let cell = cell_of c.args.style c.args.c in
    let scalar : IsScalar c.args.c = search rules in
    let code : c.code_of.result ≡ packed_cell cell = c.code_of.ensures in
    ap unpacked_cell code ∙ cell_back cell (scalar, lit≤ tt, tt)
