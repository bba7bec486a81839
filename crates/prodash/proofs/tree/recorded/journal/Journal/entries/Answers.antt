use Rattle.std.proofs.Common.{subst}
use Rattle.prodash.specs.Journals.{IsJournal}
use Rattle.prodash.proofs.tree.recorded.journal.Journal.entries.Goals as goal

pub returns-clause-replays : goal.returns-clause-replays
returns-clause-replays g c = subst (λ entries. IsJournal _ entries) c.self.view_is c.self.invariant.0
