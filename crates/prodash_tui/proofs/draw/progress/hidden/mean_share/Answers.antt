use Rattle.std.proofs.Common.{◌≡◌, ◌+◌, ◌/◌, length, ◌∙◌, arith}
use Rattle.std.specs.Prelude.{min}
use Rattle.prodash_tui.proofs.PaneRows.{mean_of_parts}
use Rattle.prodash_tui.proofs.draw.progress.hidden.mean_share.Goals as goal

pub returns : goal.returns
returns c =
    let rows = c.args.rows.now in
    let x : c.min.result ≡ min c.args.offset (length rows) = omega arith in
    let y : c.min-2.result ≡ min (c.args.offset + c.args.shown) (length rows) = omega arith in
    (λ i. (c.total_share.ensures.value i + c.total_share-2.ensures.value i) / c.max-count.ensures i)
    ∙ mean_of_parts rows c.args.offset c.args.shown c.min.result c.min-2.result x y
