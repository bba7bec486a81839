use Rattle.std.proofs.Common.{◌≡◌, Bool, Option, List, [], ◌∷◌, length, refl, arith}
use Rattle.prodash_base.specs.Rows.{RowProgress, rows_of}
use Rattle.prodash_base.specs.declared.progress.Row.{Row}
use Rattle.prodash_tui.specs.Headlines.{how_many, is_group, runs}
use Rattle.prodash_tui.proofs.CountedRows.{all_counted}
use Rattle.prodash_tui.proofs.PaneRows.{length_rows}
use Rattle.prodash_tui.proofs.draw.headline.count_tasks.Goals as goal

none_of : (test : Option RowProgress → Bool) (rows : List Row) → length rows ≡ 0 → how_many test (rows_of rows) ≡ 0
none_of test [] none = refl
none_of test (row ∷ rows) none = absurd (omega arith)

pub returns-clause-waiting : goal.returns-clause-waiting
returns-clause-waiting c =
    let rows = rows_of c.args.rows.now in
    let none : length c.loop-row.left.now ≡ 0 = c.in_default.ensures.cases in
    let running : how_many runs (rows_of c.loop-row.left.now) ≡ 0 = none_of runs c.loop-row.left.now none in
    let groups : how_many is_group (rows_of c.loop-row.left.now) ≡ 0 = none_of is_group c.loop-row.left.now none in
    omega (arith, all_counted rows, length_rows c.args.rows.now)
