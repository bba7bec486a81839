use Rattle.std.proofs.Common.{◌≡◌, ℕ, ◌-◌, List, length, ap, ◌∙◌, arith}
use Rattle.std.specs.Prelude.{min}
use Rattle.std.proofs.lemmas.List.Elements.{All-same}
use Rattle.prodash_tui.specs.declared.cell.Cell.{Cell}
use Rattle.prodash_tui.specs.Cells.{on_background}
use Rattle.prodash_tui.specs.Grids.{Sheet, with_background}
use Rattle.prodash_tui.specs.Rows.{in_part}
use Rattle.prodash_tui.proofs.GridRows.{All-in_rows, in_clipped, length-in_rows_any}
use Rattle.prodash_tui.proofs.grid.Grid.fill_background.Goals as goal

-- the rows that are left
all_colored : (c : goal.After-color_rows) → c.color_rows.new.rows.items
    ≡ in_part (min c.args.area.y c.self.inside.height) (min c.args.area.height (c.self.inside.height - min c.args.area.y c.self.inside.height))
    (in_part (min c.args.area.x c.self.inside.width) (min c.args.area.width (c.self.inside.width - c.args.area.x)) (on_background c.args.color)) c.self.inside.rows.items
all_colored c =
    let area = c.args.area in
    let width = c.self.inside.width in
    let height = c.self.inside.height in
    let rows = c.self.inside.rows.items in
    let f = on_background c.args.color in
    let y : c.from.result ≡ min area.y height = omega arith in
    let count : c.from-2.result - c.from.result ≡ min area.height (height - min area.y height) = omega arith in
    let x : c.from-3.result ≡ min area.x width = omega arith in
    let room : c.from-4.result - c.from-3.result ≡ min area.width (width - area.x) = omega arith in
    c.color_rows.ensures
    ∙ ap (λ (n : ℕ). in_part n (c.from-2.result - c.from.result) (in_part c.from-3.result (c.from-4.result - c.from-3.result) f) rows) y
    ∙ ap (λ (n : ℕ). in_part (min area.y height) n (in_part c.from-3.result (c.from-4.result - c.from-3.result) f) rows) count
    ∙ ap (λ (n : ℕ). in_part (min area.y height) (min area.height (height - min area.y height)) (in_part n (c.from-4.result - c.from-3.result) f) rows) x
    ∙ ap (λ (n : ℕ). in_part (min area.y height) (min area.height (height - min area.y height)) (in_part (min area.x width) n f) rows) room

pub invariant_of-self : goal.invariant_of-self
invariant_of-self c =
    let area = c.args.area in
    let width = c.self.inside.width in
    let height = c.self.inside.height in
    let rows = c.self.inside.rows.items in
    let first = min area.y height in
    let count = min area.height (height - first) in
    let x = min area.x width in
    let room = min area.width (width - area.x) in
    let f = in_part x room (on_background c.args.color) in
    record {
      high = ap length (all_colored c) ∙ length-in_rows_any first count f rows ∙ c.self.invariant.high;
      narrow = c.self.invariant.narrow;
      low = c.self.invariant.low;
      each = All-same (λ (row : List Cell). length row ≡ width) c.color_rows.new.rows.items (in_part first count f rows) (all_colored c)
          (All-in_rows (λ (row : List Cell). length row ≡ width) first count f rows
          (λ (row : List Cell) (e : length row ≡ width). length-in_rows_any x room (on_background c.args.color) row ∙ e) c.self.invariant.each);
    }

pub returns : goal.returns
returns c =
    let area = c.args.area in
    let width = c.self.inside.width in
    let height = c.self.inside.height in
    let f = in_part (min area.x width) (min area.width (width - area.x)) (on_background c.args.color) in
    ap (λ (rs : List (List Cell)). let g : Sheet = record { width = width; height = height; rows = rs } in g)
    (all_colored c ∙ in_clipped area.y area.height f c.self.inside.rows.items height c.self.invariant.high)
    ∙ ap (with_background area c.args.color) c.self.view_is
