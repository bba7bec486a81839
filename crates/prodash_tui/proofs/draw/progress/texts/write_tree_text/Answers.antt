use Rattle.std.proofs.Common.{◌≡◌, ℕ, ◌+◌, ◌-◌, ◌*◌, List, ◌++◌, length, ap, ◌∙◌, arith}
use Rattle.std.specs.Prelude.{string_bytes}
use Rattle.prodash_base.specs.Rows.{rows_of}
use Rattle.prodash_line.specs.CellRows.{char_columns, text_columns}
use Rattle.prodash_tui.specs.RowTexts.{branches_of, tree_text}
use Rattle.prodash_tui.specs.Texts.{block_width, drawn_text}
use Rattle.prodash_tui.proofs.BranchColumns.{tree_text_width}
use Rattle.prodash_tui.proofs.draw.progress.texts.write_tree_text.Goals as goal

pub returns-clause-columns : goal.returns-clause-columns
returns-clause-columns c =
    let rows = c.args.rows.now in
    let row = c.index-rows-index.result in
    let branches : List ℕ = branches_of (rows_of rows) c.args.index in
    let text : string_bytes c.push_branches.new.text ≡ branches = c.in_ok-push_branches.ensures ∙ ap (λ (t : List ℕ). t ++ branches) c.clear.ensures.bytes in
    let all : text_columns char_columns (drawn_text (tree_text (rows_of rows) c.args.index)) ≡ 2 * length row.key - 1 + (1 + text_columns char_columns (drawn_text row.name)) =
    tree_text_width rows c.args.index row c.push_branches.new.text
    (record { inside = c.requires.inside; row = c.index-rows-index.is; levels = c.branch_columns.ensures.levels; bytes = text }) in
    let name : c.block_width.result ≡ block_width row.name = c.block_width.ensures ∙ ap block_width c.as_str-name.ensures in
    omega (arith, c.branch_columns.ensures.value, c.branch_columns.ensures.levels, c.saturating_add.ensures)
