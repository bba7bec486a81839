use Rattle.std.proofs.Common.{rules}
use Rattle.prodash.proofs.ViewTurns.{reads}
use Rattle.prodash.proofs.tree.recorded.view.RecordedView.num_tasks.Goals as goal

pub returns : goal.returns
returns g c =
    let begun = c.begin_view_turn-tree in
    reads _ _ _ begun.result.1 _ _ begun.ensures c.end_view_turn.ensures (search rules) (search rules)
