use Rattle.std.proofs.Common.{rules}
use Rattle.prodash.proofs.ViewTurns.{reads_if_ok}
use Rattle.prodash.proofs.tree.recorded.view.RecordedView.see.Goals as goal

pub returns-clause-ok : goal.returns-clause-ok
returns-clause-ok g c =
    let begun = c.begin_view_turn-tree in
    reads_if_ok _ _ _ _ begun.result.1 _ _ begun.ensures c.end_view_turn.ensures (search rules) (search rules)
