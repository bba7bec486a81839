use Rattle.std.proofs.Common.{◌≡◌, ℕ, List, ◌+◌, ◌*◌, ◌≤◌, length, sym, ap, subst, ◌∙◌, rules}
use Rattle.std.specs.Char.{IsScalar}
use Rattle.prodash_tui.specs.declared.cell.Cell.TheVariants.{Holds}
use Rattle.prodash_tui.specs.plumbing.PackedCells.{IsPacked, packed_cell, style_digit, unpacked_cell}
use Rattle.prodash_tui.proofs.PackedCells.{cell_back, is_packed}
use Rattle.prodash_tui.proofs.packed.packed.Goals as goal

pub invariant_of-result : goal.invariant_of-result
invariant_of-result c =
    let own = c.args.c in
    let style = c.args.style in
    let chars = c.as_slice.result.now in
    let scalar : IsScalar own = search rules in
    let few : length chars ≤ 4 = c.as_slice.ensures.few in
    let code : c.code_of.result ≡ packed_cell (Holds own chars style) =
    c.code_of.ensures ∙ ap (λ (m : ℕ). (own + 1) + 0x20_0000 * (style_digit style + 128 * m)) c.packed_chars-joined.ensures.value in
    subst IsPacked (sym code) (is_packed (Holds own chars style) (scalar, few, c.packed_chars-joined.ensures.scalars))

pub returns : goal.returns
returns c =
    let own = c.args.c in
    let style = c.args.style in
    let chars = c.as_slice.result.now in
    let scalar : IsScalar own = search rules in
    let few : length chars ≤ 4 = c.as_slice.ensures.few in
    let code : c.code_of.result ≡ packed_cell (Holds own chars style) =
    c.code_of.ensures ∙ ap (λ (m : ℕ). (own + 1) + 0x20_0000 * (style_digit style + 128 * m)) c.packed_chars-joined.ensures.value in
    ap unpacked_cell code
    ∙ cell_back (Holds own chars style) (scalar, few, c.packed_chars-joined.ensures.scalars)
    ∙ ap (λ (js : List ℕ). Holds own js style) c.as_slice.ensures.value
