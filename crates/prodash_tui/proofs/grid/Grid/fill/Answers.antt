use Rattle.std.proofs.Common.{◌≡◌, ℕ, ◌-◌, ◌≤◌, List, length, replicate, ap, ◌∙◌, arith}
use Rattle.std.specs.Prelude.{min}
use Rattle.std.proofs.lemmas.List.Elements.{All-same}
use Rattle.prodash_line.specs.CellRows.{char_columns}
use Rattle.prodash_line.specs.DrawnLines.{safe_char}
use Rattle.prodash_tui.specs.declared.cell.Cell.{Cell}
use Rattle.prodash_tui.specs.Grids.{Sheet, in_rows, with_filling}
use Rattle.prodash_tui.specs.Rows.{splice}
use Rattle.prodash_tui.specs.Texts.{filling, text_cells}
use Rattle.prodash_tui.proofs.GridRows.{All-in_rows, in_clipped, length-in_rows}
use Rattle.prodash_tui.proofs.SplicedRows.{length-splice}
use Rattle.prodash_tui.proofs.WrittenTexts.{length-cut}
use Rattle.prodash_tui.proofs.grid.Grid.fill.Goals as goal

-- the rows that are left
all_filled : (c : goal.After-fill_rows) → c.fill_rows.new.rows.items
    ≡ in_rows (min c.args.area.y c.self.inside.height) (min c.args.area.height (c.self.inside.height - min c.args.area.y c.self.inside.height))
    (splice (min c.args.area.x c.self.inside.width) (filling c.args.style (min c.args.area.width (c.self.inside.width - c.args.area.x)) c.args.c)) c.self.inside.rows.items
all_filled c =
    let area = c.args.area in
    let width = c.self.inside.width in
    let height = c.self.inside.height in
    let rows = c.self.inside.rows.items in
    let y : c.from.result ≡ min area.y height = omega arith in
    let count : c.from-2.result - c.from.result ≡ min area.height (height - min area.y height) = omega arith in
    let x : c.from-3.result ≡ min area.x width = omega arith in
    let room : c.from-4.result - c.from-3.result ≡ min area.width (width - area.x) = omega arith in
    c.fill_rows.ensures
    ∙ ap (λ (n : ℕ). in_rows n (c.from-2.result - c.from.result) (splice c.from-3.result (filling c.args.style (c.from-4.result - c.from-3.result) c.args.c)) rows) y
    ∙ ap (λ (n : ℕ). in_rows (min area.y height) n (splice c.from-3.result (filling c.args.style (c.from-4.result - c.from-3.result) c.args.c)) rows) count
    ∙ ap (λ (n : ℕ). in_rows (min area.y height) (min area.height (height - min area.y height)) (splice n (filling c.args.style (c.from-4.result - c.from-3.result) c.args.c)) rows) x
    ∙ ap (λ (n : ℕ). in_rows (min area.y height) (min area.height (height - min area.y height)) (splice (min area.x width) (filling c.args.style n c.args.c)) rows) room

pub invariant_of-self : goal.invariant_of-self
invariant_of-self c =
    let area = c.args.area in
    let width = c.self.inside.width in
    let height = c.self.inside.height in
    let rows = c.self.inside.rows.items in
    let x = min area.x width in
    let room = min area.width (width - area.x) in
    let first = min area.y height in
    let count = min area.height (height - first) in
    let new = filling c.args.style room c.args.c in
    let fits : length new ≤ room = length-cut room (text_cells char_columns c.args.style (replicate room (safe_char c.args.c))) in
    let all : length rows ≡ height = c.self.invariant.high in
    record {
      high = ap length (all_filled c) ∙ length-in_rows first count (splice x new) rows (omega arith) ∙ all;
      narrow = c.self.invariant.narrow;
      low = c.self.invariant.low;
      each = All-same (λ (row : List Cell). length row ≡ width) c.fill_rows.new.rows.items (in_rows first count (splice x new) rows) (all_filled c)
          (All-in_rows (λ (row : List Cell). length row ≡ width) first count (splice x new) rows
          (λ (row : List Cell) (e : length row ≡ width). length-splice x new row (omega arith) ∙ e) c.self.invariant.each);
    }

pub returns : goal.returns
returns c =
    let area = c.args.area in
    let width = c.self.inside.width in
    let height = c.self.inside.height in
    let f = splice (min area.x width) (filling c.args.style (min area.width (width - area.x)) c.args.c) in
    ap (λ (rs : List (List Cell)). let g : Sheet = record { width = width; height = height; rows = rs } in g)
    (all_filled c ∙ in_clipped area.y area.height f c.self.inside.rows.items height c.self.invariant.high)
    ∙ ap (with_filling area c.args.style c.args.c) c.self.view_is
