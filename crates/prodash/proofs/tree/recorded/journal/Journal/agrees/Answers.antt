use Rattle.std.proofs.Common.{◌≡◌, ◌<◌, slice_get, Some, length, rules}
use Rattle.prodash.proofs.HistoryLaws.{found, get_below}
use Rattle.prodash.proofs.tree.recorded.journal.Journal.agrees.Goals as goal

pub returns-clause-value : goal.returns-clause-value
returns-clause-value g c =
    let es = c.self.inside.entries.items in
    let r = c.args.receipt.now in
    let at : slice_get es r.number ≡ Some (r.event, r.reply) = found es c.prefix.result.now c.self.inside.history r.number (r.event, r.reply) c.self.invariant.1 (c.covers.ensures es c.self.invariant.1) c.prefix.ensures in
    let below : r.number < length es = get_below es r.number (r.event, r.reply) at in
    search rules

pub returns-clause-entry : goal.returns-clause-entry
returns-clause-entry g c =
    let es = c.self.inside.entries.items in
    let r = c.args.receipt.now in
    let at : slice_get es r.number ≡ Some (r.event, r.reply) = found es c.prefix.result.now c.self.inside.history r.number (r.event, r.reply) c.self.invariant.1 (c.covers.ensures es c.self.invariant.1) c.prefix.ensures in
    rw (← c.self.view_is) at
