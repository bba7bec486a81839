use Rattle.prodash.proofs.tree.recorded.root.RecordedRoot.close.Goals as goal

pub returns-clause-replays : goal.returns-clause-replays
returns-clause-replays g c = c.entries.ensures.replays
