use Rattle.std.proofs.Common.{◌≡◌, ◌+◌, Bool, true, ◌&&◌, get_or, sym, ap, ◌∙◌}
use Rattle.prodash_base.specs.Rows.{PathRow, row_of, rows_of}
use Rattle.prodash_tui.specs.RowTexts.{has_progress, is_from, row_at}
use Rattle.prodash_tui.proofs.PaneRows.{from_shared, progress_said, said_by}
use Rattle.prodash_tui.proofs.draw.progress.texts.has_child.Goals as goal

pub returns-then-is_some : goal.returns-then-is_some
returns-then-is_some c =
    let rows = c.args.rows.now in
    let i = c.args.index in
    let own = c.index-rows-index.result in
    let next = c.in-Some.next.now in
    let key = (get_or rows i own).key in
    let found = c.in-Some.ensures.lookup in
    let own_said : row_at (rows_of rows) i ≡ row_of own = said_by rows i own c.requires c.index-rows-index.is in
    let next_said : row_at (rows_of rows) (i + 1) ≡ row_of next = said_by rows (i + 1) next found.3.0 found.1 in
    let shared : c.shares_parent_with.result ≡ is_from key next.key = from_shared c.shares_parent_with.result c.level.result key next.key c.level.ensures.value c.shares_parent_with.ensures in
    let below : is_from key next.key ≡ is_from (row_at (rows_of rows) i).0 (row_at (rows_of rows) (i + 1)).0 =
    λ j. is_from ((ap (λ (r : PathRow). r.0) (ap row_of (sym c.index-rows-index.is) ∙ sym own_said)) j) ((ap (λ (r : PathRow). r.0) (sym next_said)) j) in
    let has : true ≡ has_progress (row_at (rows_of rows) (i + 1)).1.progress =
    sym (ap (λ (r : PathRow). has_progress r.1.progress) next_said ∙ progress_said next.progress (sym c.is_some.ensures ∙ c.if-is_some.true)) in
    shared ∙ below ∙ ap (λ (b : Bool). b && is_from (row_at (rows_of rows) i).0 (row_at (rows_of rows) (i + 1)).0) has
