use Rattle.std.proofs.Common.{◌∙◌}
use Rattle.prodash.proofs.CallLaws.{closed_same}
use Rattle.prodash.proofs.JournalLaws.{is_journal}
use Rattle.prodash.proofs.tree.recorded.locked_recording.split_recording.Goals as goal

pub new-requires-clause-replays : goal.new-requires-clause-replays
new-requires-clause-replays g c =
    is_journal _ _ _ _ c.requires.capacity c.into_parts-tree.ensures.replays

pub returns-clause-last : goal.returns-clause-last
returns-clause-last g c =
    let parts = c.into_parts-tree in
    closed_same _ parts.result.0 c.duplicate.result c.args.state c.new-last.result c.requires.capacity parts.ensures.tree
    (c.duplicate.ensures ∙ c.requires.known) c.new-last.ensures
