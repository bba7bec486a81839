use Rattle.std.proofs.Common.{◌≡◌, ℕ, List, length, sym, subst}
use Rattle.std.specs.Prelude.{OnOk}
use Rattle.prodash_base.specs.Appending.{Appends}
use Rattle.prodash_base.specs.Rows.{rows_of}
use Rattle.prodash_tui.specs.Headlines.{count_words, counts_text}
use Rattle.prodash_tui.proofs.PaneRows.{length_rows}
use Rattle.prodash_tui.proofs.draw.headline.push_counts.Goals as goal

pub returns : goal.returns
returns c =
    let rows = c.args.rows.now in
    let counts = c.count_tasks-counts.ensures in
    let numbers = c.count_tasks-counts.result in
    let same : count_words numbers.running numbers.waiting numbers.groups (length rows) ≡ counts_text (rows_of rows) =
    λ i. count_words (counts.running i) (counts.waiting i) (counts.groups i) (sym (length_rows rows) i) in
    subst (λ (t : List ℕ). OnOk c.push_count_words.result (Appends c.args.text.now t c.push_count_words.new.text)) same c.push_count_words.ensures
